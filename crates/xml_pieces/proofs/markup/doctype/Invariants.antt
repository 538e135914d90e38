use Rattle.std.proofs.Common.{◌≡◌, ◌-◌, length, drop}
use Rattle.xml_pieces.specs.Reading.{steps}
use Rattle.xml_pieces.specs.Markup.{doctype_step}
use Rattle.xml_pieces.proofs.markup.doctype.Given as goal

abbrev pub invariant-loop-i : goal.invariant-loop-i
invariant-loop-i l = steps (doctype_step l.here) (length l.here - l._i) l.rest ≡ steps (doctype_step l.here) (length l.here) (drop 9 l.here)
