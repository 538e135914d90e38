use Rattle.std.proofs.Common.{◌-◌, arith, sym, ◌∙◌}
use Rattle.policy_decide.proofs.Lasts.{last_of-take}
use Rattle.policy_decide.proofs.rules.last_of.Goals as goal

pub returns-then-matches_at : goal.returns-then-matches_at
returns-then-matches_at c =
    record { last = sym (c.loop-i.invariant ∙ last_of-take c.args.entries.now c.args.action.now c.args.category c.args.label.now (c.loop-i.i - 1) c.loop-i.i c.index-entries-i.result _ (omega arith) (omega arith) c.index-entries-i.is (sym c.if-matches_at.true ∙ c.matches_at.ensures.matches)) }

pub loop-i-preserved : goal.loop-i-preserved
loop-i-preserved c =
    c.loop-i.invariant ∙ last_of-take c.args.entries.now c.args.action.now c.args.category c.args.label.now (c.loop-i.i - 1) c.loop-i.i c.index-entries-i.result _ (omega arith) (omega arith) c.index-entries-i.is (sym c.if-matches_at.false ∙ c.matches_at.ensures.matches)
