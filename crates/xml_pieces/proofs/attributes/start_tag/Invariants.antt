use Rattle.std.proofs.Common.{◌≡◌, ◌-◌, [], length}
use Rattle.xml_pieces.specs.Reading.{steps}
use Rattle.xml_pieces.specs.Texts.{tag_step}
use Rattle.xml_pieces.specs.Views.{pairs}
use Rattle.xml_pieces.proofs.attributes.start_tag.Given as goal

abbrev pub invariant-loop-i : goal.invariant-loop-i
invariant-loop-i l = steps (tag_step l.is_action) (length l.bytes - l._i) (pairs l.attributes, l.rest) ≡ steps (tag_step l.is_action) (length l.bytes) ([], l.bytes)
