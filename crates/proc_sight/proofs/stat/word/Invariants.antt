-- The words before the place are cut off.
use Rattle.std.proofs.Common.{◌≡◌, drop}
use Rattle.pk_types.specs.Pieces.{pieces_of}
use Rattle.proc_sight.proofs.stat.word.Given as goal

abbrev pub invariant-loop-i : goal.invariant-loop-i
invariant-loop-i l = drop l.i (pieces_of 32 l.words) ≡ pieces_of 32 l.rest
