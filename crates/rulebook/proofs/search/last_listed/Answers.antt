use Rattle.std.proofs.Common.{◌-◌, arith, sym, ◌∙◌}
use Rattle.authority_model.specs.Rules.{matches_at}
use Rattle.rulebook.proofs.Lasts.{last-here, last-passed_over, last-absent}
use Rattle.rulebook.proofs.search.last_listed.Goals as goal

pub returns-then-matches_at : goal.returns-then-matches_at
returns-then-matches_at c =
    record {
      last = sym (c.loop-i.invariant ∙ last-here (λ (place, entry). matches_at c.args.label.now c.args.action.now c.args.category entry) c.args.entries.now c.args.places.now (c.loop-i.i - 1) c.loop-i.i c.in-Some.entry.now
          (omega arith) (omega arith) c.in-Some.ensures.item (sym c.matches_at.ensures.matches ∙ c.if-matches_at.true));
    }

pub loop-i-preserved-else-matches_at : goal.loop-i-preserved-else-matches_at
loop-i-preserved-else-matches_at c =
    c.loop-i.invariant ∙ last-passed_over (λ (place, entry). matches_at c.args.label.now c.args.action.now c.args.category entry) c.args.entries.now c.args.places.now (c.loop-i.i - 1) c.loop-i.i c.in-Some.entry.now
    (omega arith) (omega arith) c.in-Some.ensures.item (sym c.matches_at.ensures.matches ∙ c.if-matches_at.false)

pub loop-i-preserved : goal.loop-i-preserved
loop-i-preserved c =
    c.loop-i.invariant ∙ last-absent (λ (place, entry). matches_at c.args.label.now c.args.action.now c.args.category entry) c.args.entries.now c.args.places.now (c.loop-i.i - 1) c.loop-i.i
    (omega arith) (omega arith) c.in_default.ensures.item
