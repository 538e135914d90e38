use Rattle.std.proofs.Common.{◌∙◌, sym, ap, refl, option_map}
use Rattle.std.specs.List.{flat_map}
use Rattle.authority_model.specs.Rules.{greatest}
use Rattle.policy_decide.specs.Walks.{group_places, rule_seen}
use Rattle.policy_decide.proofs.Lasts.{greatest-own, or_else-of_none, or_else-of_some}
use Rattle.rulebook.proofs.implicit.greatest_of_user.Goals as goal

pub returns-then-is_some : goal.returns-then-is_some
returns-then-is_some g c =
    record {
      greatest = sym (or_else-of_some rule_seen c.last_at-own.result.rule _ _ (sym c.is_some.ensures ∙ c.if-is_some.true) refl)
          ∙ greatest-own c.args.policy.now (g.R.WorldRows.world c.args.world.now) c.args.user.now c.args.action.now c.args.category (option_map rule_seen c.last_at-own.result.rule) _ c.last_at-own.ensures.last refl;
    }

pub returns : goal.returns
returns g c =
    record {
      greatest = sym (or_else-of_none rule_seen c.last_at-own.result.rule _ _ (sym c.is_some.ensures ∙ c.if-is_some.false) refl)
          ∙ greatest-own c.args.policy.now (g.R.WorldRows.world c.args.world.now) c.args.user.now c.args.action.now c.args.category (option_map rule_seen c.last_at-own.result.rule) (option_map rule_seen c.greatest_of_groups-others.result.rule) c.last_at-own.ensures.last
          (c.greatest_of_groups-others.ensures.greatest ∙ ap (λ gs. greatest c.args.policy.now c.args.action.now c.args.category (flat_map (group_places (g.R.WorldRows.world c.args.world.now)) gs)) c.as_slice.ensures.items);
    }
