-- A policy without one of its rules. The later rules move up by one place.
use Rattle.std.specs.Prelude.{◌≡◌, ◌≢◌, ℕ, ◌+◌, Option, if◌then◌else◌, nat_lt, option_map, remove}
use Rattle.pk_types.specs.declared.values.Category.{Category}
use Rattle.pk_types.specs.declared.values.Implicit.{Implicit}
use Rattle.authority_model.specs.declared.policy.Action.{Action}
use Rattle.authority_model.specs.declared.policy.Policy.{Policy}
use Rattle.authority_model.specs.declared.verdict.RuleSource.{RuleSource}
use Rattle.authority_model.specs.declared.world.User.{User}
use Rattle.authority_model.specs.declared.world.World.{World}
use Rattle.authority_model.specs.Lists.{Has}
use Rattle.authority_model.specs.Rules.{implicit}
use Rattle.authority_model.specs.Words.{Bytes}

-- the policy without the rule at place y
abbrev pub without : ℕ → Policy → Policy
without y policy = record { actions = policy.actions; entries = remove policy.entries y; admins = policy.admins }

-- the place that a rule had before the one at y was taken out
abbrev pub place_before : ℕ → ℕ → ℕ
place_before y p = if nat_lt p y then p else p + 1

-- what gave a value, by the place that it had before
abbrev pub source_before : ℕ → RuleSource → RuleSource
source_before y (RuleSource.Default category) = RuleSource.Default category
source_before y (RuleSource.Entry p) = RuleSource.Entry (place_before y p)

-- a value, and what gave it, by the place that this had before
abbrev pub found_before : ℕ → Implicit × RuleSource → Implicit × RuleSource
found_before y (value, source) = (value, source_before y source)

-- the implicit value without the rule at y, and what gives it then, by the place that this had before
abbrev pub implicit_without : ℕ → Policy → World → ℕ → Category → Bytes → Option (Implicit × RuleSource)
implicit_without y policy world uid category id = option_map (found_before y) (implicit (without y policy) world uid category id)

-- Without the rule at y each user of the world but root has the same implicit values, by the same rules and defaults.
abbrev pub MattersNot : Policy → World → ℕ → Type 0
MattersNot policy world y =
    (user : User) (category : Category) (action : Action) → Has world.users user → user.uid ≢ 0 → Has policy.actions action
    → implicit_without y policy world user.uid category action.id ≡ implicit policy world user.uid category action.id
