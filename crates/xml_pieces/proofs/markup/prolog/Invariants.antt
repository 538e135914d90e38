use Rattle.std.proofs.Common.{◌≡◌, ◌+◌, ◌-◌, length}
use Rattle.xml_pieces.specs.Reading.{steps}
use Rattle.xml_pieces.specs.Markup.{prolog_step}
use Rattle.xml_pieces.proofs.markup.prolog.Given as goal

abbrev pub invariant-loop-i : goal.invariant-loop-i
invariant-loop-i l = steps prolog_step (length l.bytes + 1 - l._i) (l.may, l.rest) ≡ steps prolog_step (length l.bytes + 1) (l.fn.may, l.bytes)
