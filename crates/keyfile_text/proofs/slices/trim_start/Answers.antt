-- One blank less.
use Rattle.std.proofs.Common.{[], sym, ◌∙◌, arith}
use Rattle.keyfile_text.proofs.Cleans.{clean-cut}
use Rattle.keyfile_text.proofs.Trims.{trim_front-blank, blank_low}
use Rattle.keyfile_text.proofs.slices.trim_start.Goals as goal

pub loop-first-preserved : goal.loop-first-preserved
loop-first-preserved c =
    let blank = sym c.if-not-is_blank.ensures.blank in record {
      same = sym (trim_front-blank _ _ _ c.in-Some.ensures.cases.0 blank) ∙ c.loop-first.invariant.same;
      clean = λ clean. (clean-cut _ [] _ _ c.in-Some.ensures.cases.0 (blank_low _ blank) (c.loop-first.invariant.clean clean)).1;
      shorter = omega (arith, c.loop-first.invariant.shorter, c.in-Some.ensures.cases.1);
    }
