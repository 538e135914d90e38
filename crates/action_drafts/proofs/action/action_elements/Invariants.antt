use Rattle.std.proofs.Common.{◌≡◌, ◌-◌, length}
use Rattle.xml_pieces.specs.Reading.{steps}
use Rattle.action_drafts.specs.Actions.{action_step}
use Rattle.action_drafts.proofs.action.action_elements.Given as goal

abbrev pub invariant-loop-i : goal.invariant-loop-i
invariant-loop-i l = steps action_step (length l.bytes - l._i) (l.action, l.rest) ≡ steps action_step (length l.bytes) (l.fn.draft, l.bytes)
