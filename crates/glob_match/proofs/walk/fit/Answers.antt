-- One scalar more of pattern and text fits.
use Rattle.std.proofs.Common.{arith, inl, inr, ◌≡◌, ◌⊎◌}
use Rattle.glob_match.proofs.Stars.{fitted_more}
use Rattle.glob_match.proofs.walk.fit.Goals as goal
use Rattle.glob_match.proofs.walk.fit.Goals.{else-wanted-ne-ANY-via-then-wanted-ne-ANY+else-wanted-scalar, else-wanted-ne-ANY-via-else-wanted-ne-ANY}

pub loop-wanted-preserved : goal.loop-wanted-preserved
loop-wanted-preserved c =
    let stands : (c.in-Some.wanted ≡ 63) ⊎ (c.in-Some.wanted ≡ c.in-Some-next_scalar.scalar) =
    elim c.else-wanted-ne-ANY.branch [
      | else-wanted-ne-ANY-via-then-wanted-ne-ANY+else-wanted-scalar w ↦ inr w.if-wanted-scalar.false
      | else-wanted-ne-ANY-via-else-wanted-ne-ANY w ↦ inl w.if-wanted-ne-ANY.false
    ] in
    record {
      fitted = fitted_more _ _ _ _ _ _ _ _ c.loop-wanted.invariant.fitted c.in-Some.ensures.scalar c.in-Some-next_scalar.ensures.scalar c.if-wanted-eq-STAR.false stands;
      shorter = omega (arith, c.loop-wanted.invariant.shorter, c.in-Some.ensures.fewer);
    }
