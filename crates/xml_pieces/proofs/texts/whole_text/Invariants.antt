use Rattle.std.proofs.Common.{◌≡◌, ◌-◌, [], length}
use Rattle.xml_pieces.specs.Reading.{steps}
use Rattle.xml_pieces.specs.Texts.{text_step}
use Rattle.xml_pieces.proofs.texts.whole_text.Given as goal

abbrev pub invariant-loop-i : goal.invariant-loop-i
invariant-loop-i l = steps (text_step l.wanted l.place) (length l.bytes - l._i) (l.so_far.items, l.rest) ≡ steps (text_step l.wanted l.place) (length l.bytes) ([], l.bytes)
