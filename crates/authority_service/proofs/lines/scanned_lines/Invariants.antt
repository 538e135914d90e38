-- The lines so far.
use Rattle.std.proofs.Common.{◌≡◌, map, take}
use Rattle.authority_service.specs.Lines.{scanned}
use Rattle.authority_service.proofs.lines.scanned_lines.Given as goal

abbrev pub invariant-loop-line : goal.invariant-loop-line
invariant-loop-line l = l.all.items ≡ map scanned (take l.line-index l.lines)
