use Rattle.std.proofs.Common.{sym, ◌∙◌, ap, Some, rules, arith}
use Rattle.std.specs.Prelude.{map, filter}
use Rattle.std.specs.Option.{option_copied}
use Rattle.std.proofs.lemmas.List.{take_all}
use Rattle.authority_model.specs.Facts.{facts_seen}
use Rattle.authority_model.specs.Grants.{kept}
use Rattle.authority_model.specs.Words.{least_text}
use Rattle.view_decision.specs.Implying.{counted}
use Rattle.view_decision.proofs.LeastAction.{least_found, least_walked, least_taken, least_kept}
use Rattle.view_decision.proofs.implying.least_implying.Goals as goal
use Rattle.view_decision.proofs.implying.least_implying.Goals.{then-counts, else-counts}

pub loop-candidate-preserved : goal.loop-candidate-preserved
loop-candidate-preserved g c = record {
  least = λ past is.
      let test = counted past (kept past) (facts_seen c.args.facts.now) c.args.moment c.args.id.now in
      let counts = c.counts.ensures.counts past is in
      least_walked test c.as_slice-candidate-items.result.now c.loop-candidate.candidate-index c.candidate-item.result (option_copied c.loop-candidate.least) (option_copied c.if-counts.least)
      c.loop-candidate-test.true c.candidate-item.is (c.loop-candidate.invariant.least past is)
      (elim c.if-counts.branch [
        | then-counts w ↦
            least_taken test c.candidate-item.result (option_copied c.loop-candidate.least) (option_copied c.if-counts.least) w.text.result.now (sym counts ∙ w.if-counts.true) (search rules)
            (ap option_copied w.least-is ∙ ap Some w.lesser.ensures.lesser)
        | else-counts w ↦
            least_kept test c.candidate-item.result (option_copied c.loop-candidate.least) (option_copied c.if-counts.least) (sym counts ∙ w.if-counts.false) (ap option_copied w.least-is)
      ]);
  items = c.loop-candidate.invariant.items;
}

pub returns : goal.returns
returns g c = record {
  least = λ past is.
      let test = counted past (kept past) (facts_seen c.args.facts.now) c.args.moment c.args.id.now in
      c.loop-candidate.invariant.least past is
      ∙ ap (λ xs. least_text (map (λ x. x.id) (filter test xs))) (take_all c.loop-candidate.candidate-index c.as_slice-candidate-items.result.now (omega arith) ∙ c.loop-candidate.invariant.items ∙ ap (λ l. l.policy.actions) is.loaded_is)
      ∙ least_found past (kept past) (facts_seen c.args.facts.now) c.args.moment c.args.id.now;
}
