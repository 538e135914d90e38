-- One blank less.
use Rattle.std.proofs.Common.{[], sym, ◌∙◌, arith}
use Rattle.keyfile_text.proofs.Cleans.{clean-cut}
use Rattle.keyfile_text.proofs.Trims.{trim_back-blank, trim_back-other, blank_low}
use Rattle.keyfile_text.proofs.slices.trim_end.Goals as goal

pub loop-last-preserved : goal.loop-last-preserved
loop-last-preserved c =
    let blank = sym c.if-not-is_blank.ensures.blank in record {
      same = sym (trim_back-blank _ _ _ c.in-Some.ensures.cases.0 blank) ∙ c.loop-last.invariant.same;
      clean = λ clean. (clean-cut _ _ [] _ c.in-Some.ensures.cases.0 (blank_low _ blank) (c.loop-last.invariant.clean clean)).0;
      shorter = omega (arith, c.loop-last.invariant.shorter, c.in-Some.ensures.cases.1);
    }

pub returns-then-not-is_blank-clause-trimmed : goal.returns-then-not-is_blank-clause-trimmed
returns-then-not-is_blank-clause-trimmed c =
    sym (trim_back-other _ _ _ c.in-Some.ensures.cases.0 (sym c.if-not-is_blank.ensures.blank)) ∙ c.loop-last.invariant.same
