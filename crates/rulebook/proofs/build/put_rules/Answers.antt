use Rattle.std.proofs.Common.{refl, ap, ◌∙◌, arith}
use Rattle.pk_types.specs.Text.{IsText}
use Rattle.authority_model.specs.Lists.{Each}
use Rattle.rulebook.specs.Indexes.{add_where, names, has_pattern}
use Rattle.rulebook.proofs.Places.{places-take, each-take}
use Rattle.rulebook.proofs.build.put_rules.Goals as goal

pub loop-i-preserved : goal.loop-i-preserved
loop-i-preserved c =
    let entry = c.index-entries-i.result in
    let place = c.in_ok-place.place in
    record {
      exact = λ q.
          c.in_ok-put_rule.ensures.exact q
          ∙ ap (λ ps. add_where (names q entry) ps place) (c.loop-i.invariant.exact q)
          ∙ places-take (names q) c.args.entries.now c.loop-i.i _ place entry refl (omega arith) c.index-entries-i.is c.in_ok-place.ensures.place;
      patterns = c.in_ok-put_rule.ensures.patterns
          ∙ ap (λ ps. add_where (has_pattern entry) ps place) c.loop-i.invariant.patterns
          ∙ places-take has_pattern c.args.entries.now c.loop-i.i _ place entry refl (omega arith) c.index-entries-i.is c.in_ok-place.ensures.place;
      texts = each-take (λ e. Each IsText e.identities) c.args.entries.now c.loop-i.i _ entry refl (omega arith) c.index-entries-i.is c.loop-i.invariant.texts c.in_ok-put_rule.ensures.texts;
    }
