use Rattle.std.proofs.Common.{◌∙◌, ap, refl, Some, None}
use Rattle.std.specs.List.{flat_map}
use Rattle.authority_model.specs.Rules.{greatest}
use Rattle.policy_decide.specs.Walks.{rule_seen, last_of, group_places}
use Rattle.policy_decide.proofs.Lasts.{greatest-own}
use Rattle.policy_decide.proofs.places.greatest_of_user.Goals as goal

pub returns-in-Some : goal.returns-in-Some
returns-in-Some c =
    record {
      greatest = greatest-own c.args.policy.now c.args.world.now c.args.user.now c.args.action.now c.args.category (Some (rule_seen c.in-Some.rule)) _
          (c.in-Some.ensures.last ∙ ap (λ es. last_of es c.args.action.now c.args.category c.args.user.now.label) c.as_slice.ensures.items) refl;
    }

pub returns-in-None : goal.returns-in-None
returns-in-None c =
    record {
      greatest = greatest-own c.args.policy.now c.args.world.now c.args.user.now c.args.action.now c.args.category None _
          (c.in-None.ensures.last ∙ ap (λ es. last_of es c.args.action.now c.args.category c.args.user.now.label) c.as_slice.ensures.items)
          (c.greatest_of_groups.ensures.greatest ∙ ap (λ gs. greatest c.args.policy.now c.args.action.now c.args.category (flat_map (group_places c.args.world.now) gs)) c.as_slice-in-None.ensures.items);
    }
