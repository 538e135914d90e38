-- A suffix that begins with another scalar is skipped.
use Rattle.std.proofs.Common.{arith, sym}
use Rattle.glob_match.proofs.Stars.{skipped}
use Rattle.glob_match.proofs.walk.behind_others.Goals as goal

pub loop-scalar-preserved : goal.loop-scalar-preserved
loop-scalar-preserved c = record {
  star = c.loop-scalar.invariant.star;
  any = c.loop-scalar.invariant.any;
  same = λ pattern. skipped c.args.wanted c.in-Some.scalar pattern _ _ _ (c.loop-scalar.invariant.same pattern) c.in-Some.ensures.scalar
      c.loop-scalar.invariant.star c.loop-scalar.invariant.any (λ e. c.if-scalar-wanted.false (sym e));
  shorter = omega (arith, c.loop-scalar.invariant.shorter, c.in-Some.ensures.fewer);
}
