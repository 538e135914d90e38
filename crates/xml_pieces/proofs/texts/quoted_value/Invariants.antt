use Rattle.std.proofs.Common.{◌≡◌, ◌-◌, [], length}
use Rattle.xml_pieces.specs.Reading.{steps}
use Rattle.xml_pieces.specs.Texts.{value_step}
use Rattle.xml_pieces.proofs.texts.quoted_value.Given as goal

abbrev pub invariant-loop-i : goal.invariant-loop-i
invariant-loop-i l = steps (value_step l.place l.quote) (length l.bytes - l._i) (l.so_far.items, l.rest) ≡ steps (value_step l.place l.quote) (length l.bytes) ([], l.bytes)
