-- The cases that are explained: each user of a world, in each category, for each action of a policy.
use Rattle.std.specs.Prelude.{ℕ, ◌==◌, Bool, false, not, ◌&&◌, List, ◌++◌, Option, Some, find, flat_map, map}
use Rattle.pk_types.specs.declared.values.Category.{Category}
use Rattle.pk_types.specs.declared.values.Implicit.{Implicit}
use Rattle.authority_model.specs.declared.load.Loaded.{Loaded}
use Rattle.authority_model.specs.declared.policy.Action.{Action}
use Rattle.authority_model.specs.declared.policy.Policy.{Policy}
use Rattle.authority_model.specs.declared.verdict.RuleSource.{RuleSource}
use Rattle.authority_model.specs.declared.world.User.{User}
use Rattle.authority_model.specs.Rules.{implicit}
use Rattle.pkexplain_tool.specs.declared.case.Case.{Case}

-- a user in a category, for an action
abbrev pub case_of : ℕ → Category → Action → Case
case_of uid category action = record { uid = uid; category = category; action = action.id }

-- the cases of a user in a category, action by action
abbrev pub row_of : ℕ → Category → List Action → List Case
row_of uid category actions = map (case_of uid category) actions

-- the cases of a user, category by category
abbrev pub cases_of_user : Policy → User → List Case
cases_of_user policy user = row_of user.uid Category.Any policy.actions ++ (row_of user.uid Category.Inactive policy.actions ++ row_of user.uid Category.Active policy.actions)

-- the cases of a load, user by user
abbrev pub cases_of : Loaded → List Case
cases_of loaded = flat_map (cases_of_user loaded.policy) loaded.world.users

-- whether the rule at this place gave an implicit value
abbrev pub is_from : ℕ → Option (Implicit × RuleSource) → Bool
is_from place (Some (value, RuleSource.Entry p)) = p == place
is_from place other = false

-- whether the rule at this place decides a case: it gives the implicit value of someone who is not root
abbrev pub decides : Loaded → ℕ → Case → Bool
decides loaded place c = not (c.uid == 0) && is_from place (implicit loaded.policy loaded.world c.uid c.category c.action)

-- the first of these cases that the rule at this place decides
abbrev pub first_decided : Loaded → List Case → ℕ → Option Case
first_decided loaded cases place = find (decides loaded place) cases
