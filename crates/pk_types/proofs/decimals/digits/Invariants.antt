use Rattle.std.proofs.Common.{◌≡◌, ◌≤◌, length}
use Rattle.pk_types.specs.Decimals.{digits_after}
use Rattle.pk_types.proofs.decimals.digits.Given as goal

abbrev pub invariant-loop-rest : goal.invariant-loop-rest
invariant-loop-rest l = record { same : digits_after 0 l.word ≡ digits_after l.value l.rest; small : l.value ≤ l.greatest }

abbrev pub decreases-loop-rest : goal.decreases-loop-rest
decreases-loop-rest l = length l.rest
