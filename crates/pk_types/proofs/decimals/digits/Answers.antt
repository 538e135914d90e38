use Rattle.std.proofs.Common.{arith}
use Rattle.pk_types.proofs.TooLarge.{too_large_at}
use Rattle.pk_types.proofs.decimals.digits.Goals as goal

pub returns-then-next-from-clause-value : goal.returns-then-next-from-clause-value
returns-then-next-from-clause-value c =
    too_large_at c.args.greatest c.loop-rest.value c.args.word.now c.loop-rest.rest.now c.loop-rest.invariant.same c.in-len1-up.len_at_least
    (grind arith) (omega arith)
