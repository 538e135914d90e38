use Rattle.std.proofs.Common.{◌≡◌, ◌-◌, length}
use Rattle.xml_pieces.specs.Reading.{steps}
use Rattle.action_drafts.specs.Documents.{file_step, no_actions}
use Rattle.action_drafts.proofs.documents.file_elements.Given as goal

abbrev pub invariant-loop-i : goal.invariant-loop-i
invariant-loop-i l = steps file_step (length l.bytes - l._i) (l.file, l.rest) ≡ steps file_step (length l.bytes) (no_actions, l.bytes)
