-- Rules that decide nothing.
use Rattle.std.specs.Prelude.{ℕ, ◌≢◌, Some}
use Rattle.pk_types.specs.declared.values.Category.{Category}
use Rattle.pk_types.specs.declared.values.Implicit.{Implicit}
use Rattle.authority_model.specs.declared.policy.Action.{Action}
use Rattle.authority_model.specs.declared.policy.Policy.{Policy}
use Rattle.authority_model.specs.declared.verdict.RuleSource.{RuleSource}
use Rattle.authority_model.specs.declared.world.User.{User}
use Rattle.authority_model.specs.declared.world.World.{World}
use Rattle.authority_model.specs.Lists.{Has}
use Rattle.authority_model.specs.Rules.{implicit}

-- The rule at a place is dead: for no user of the world with a uid other than 0, no category and no action of the policy does it give the implicit value.
abbrev pub IsDead : Policy → World → ℕ → Type 0
IsDead policy world place =
    (user : User) (category : Category) (action : Action) (value : Implicit) → Has world.users user → user.uid ≢ 0 → Has policy.actions action
    → implicit policy world user.uid category action.id ≢ Some (value, RuleSource.Entry place)
