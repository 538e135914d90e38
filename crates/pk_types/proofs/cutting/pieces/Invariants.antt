use Rattle.std.proofs.Common.{◌≡◌, ◌++◌, map, length, Bor}
use Rattle.std.proofs.Common.{List, ℕ}
use Rattle.pk_types.specs.Pieces.{pieces_of}
use Rattle.pk_types.proofs.cutting.pieces.Given as goal

abbrev pub invariant-cuts : goal.invariant-cuts
invariant-cuts l = map (λ (piece : Bor (List ℕ)). piece.now) l.pieces.items ++ pieces_of l.separator l.rest ≡ pieces_of l.separator l.bytes

abbrev pub decreases-cuts : goal.decreases-cuts
decreases-cuts l = length l.rest
