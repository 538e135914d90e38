-- The lines so far.
use Rattle.std.proofs.Common.{take}
use Rattle.std.specs.Prelude.{All}
use Rattle.authority_service.specs.Looks.{NeverLooked}
use Rattle.authority_service.proofs.telling.none_looked.Given as goal

abbrev pub invariant-loop-line : goal.invariant-loop-line
invariant-loop-line l = All NeverLooked (take l.line-index l.lines)
