use Rattle.std.proofs.Common.{◌≡◌, ◌++◌, map, length, Bor}
use Rattle.std.proofs.Common.{List, ℕ}
use Rattle.pk_types.specs.Pieces.{lines_of}
use Rattle.pk_types.proofs.cutting.lines.Given as goal

abbrev pub invariant-cuts : goal.invariant-cuts
invariant-cuts l = map (λ (line : Bor (List ℕ)). line.now) l.lines.items ++ lines_of l.rest ≡ lines_of l.bytes

abbrev pub decreases-cuts : goal.decreases-cuts
decreases-cuts l = length l.rest
