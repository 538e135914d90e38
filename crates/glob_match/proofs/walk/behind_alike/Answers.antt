-- One plain byte more of pattern and text is the same.
use Rattle.std.proofs.Common.{arith, inr, refl, ap, sym, ◌∙◌, ◌∷◌, ◌+◌, drop, get_or}
use Rattle.std.proofs.lemmas.List.{drop_more}
use Rattle.glob_match.proofs.Scalars.{chars-plain}
use Rattle.glob_match.proofs.Stars.{fitted_more}
use Rattle.glob_match.proofs.walk.behind_alike.Goals as goal

pub loop-alike-preserved : goal.loop-alike-preserved
loop-alike-preserved c =
    let at = c.loop-alike.alike in
    let pattern = c.args.pattern.now in
    let text = c.args.text.now in
    let plain = c.is_plain.ensures c.if-not-is_plain.false in
    let same = ap (λ b. b ∷ drop (at + 1) text) (sym c.if-pattern-alike.false) in
    record {
      fitted = fitted_more _ _ _ _ _ _ (get_or pattern at 0) (get_or pattern at 0) c.loop-alike.invariant.fitted
          (chars-plain _ _ _ (drop_more pattern at 0 c.loop-alike-test.true) plain.0)
          (chars-plain _ _ _ (drop_more text at 0 c.if-alike-text.true ∙ same) plain.0)
          plain.1 (inr refl);
      within = omega (arith, c.loop-alike-test.true);
      within_text = omega (arith, c.if-alike-text.true);
    }
