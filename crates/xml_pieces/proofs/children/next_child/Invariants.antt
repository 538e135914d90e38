use Rattle.std.proofs.Common.{◌≡◌, ◌-◌, length}
use Rattle.xml_pieces.specs.Reading.{steps}
use Rattle.xml_pieces.specs.Children.{next_step}
use Rattle.xml_pieces.proofs.children.next_child.Given as goal

abbrev pub invariant-loop-i : goal.invariant-loop-i
invariant-loop-i l = steps (next_step l.parent) (length l.bytes - l._i) l.rest ≡ steps (next_step l.parent) (length l.bytes) l.bytes
