use Rattle.std.proofs.Common.{◌-◌, arith, sym, ◌∙◌}
use Rattle.policy_decide.specs.Walks.{rule_seen}
use Rattle.policy_decide.proofs.Lasts.{greatest-take, or_else-of_none, or_else-of_some}
use Rattle.rulebook.proofs.implicit.greatest_of_groups.Goals as goal

pub returns-then-is_some : goal.returns-then-is_some
returns-then-is_some g c =
    record {
      greatest = sym (c.loop-i.invariant ∙ greatest-take c.args.policy.now (g.R.WorldRows.world c.args.world.now) c.args.action.now c.args.category c.args.gids.now (c.loop-i.i - 1) c.loop-i.i (omega arith) (omega arith)
          ∙ or_else-of_some rule_seen c.last_of_group-found.result.rule _ _ (sym c.is_some.ensures ∙ c.if-is_some.true) c.last_of_group-found.ensures.last);
    }

pub loop-i-preserved : goal.loop-i-preserved
loop-i-preserved g c =
    c.loop-i.invariant ∙ greatest-take c.args.policy.now (g.R.WorldRows.world c.args.world.now) c.args.action.now c.args.category c.args.gids.now (c.loop-i.i - 1) c.loop-i.i (omega arith) (omega arith)
    ∙ or_else-of_none rule_seen c.last_of_group-found.result.rule _ _ (sym c.is_some.ensures ∙ c.if-is_some.false) c.last_of_group-found.ensures.last
