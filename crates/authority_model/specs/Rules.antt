-- The implicit value of an action for a user: its default, unless a rule overrides it (pklocalauthority(8), "Evaluation Order").
use Rattle.std.specs.Prelude.{ℕ, Bool, false, ◌&&◌, List, [], ◌∷◌, ◌++◌, Option, Some, None, is_some, option_map, option_to_list, unwrap_or, flat_map, bytes_eq, find}
use Rattle.std.specs.List.{enumerate_from}
use Rattle.std.specs.Option.{option_map_or}
use Rattle.pk_types.specs.declared.values.Implicit.{Implicit}
use Rattle.pk_types.specs.declared.values.Category.{Category}
use Rattle.glob_match.specs.Glob.{matches}
use Rattle.authority_model.specs.declared.verdict.RuleSource.{RuleSource}
use Rattle.authority_model.specs.declared.world.World.{World}
use Rattle.authority_model.specs.declared.world.User.{User as UserRow}
use Rattle.authority_model.specs.declared.policy.Policy.{Policy}
use Rattle.authority_model.specs.declared.policy.Action.{Action}
use Rattle.authority_model.specs.declared.policy.RuleEntry.{RuleEntry}
use Rattle.authority_model.specs.Lists.{or_else, any_of, find_last}
use Rattle.authority_model.specs.Words.{Bytes, words}
use Rattle.authority_model.specs.Worlds.{user_row, group_row}

-- the action of an id: the first that has it
abbrev pub action_of : Policy → Bytes → Option Action
action_of policy id = find (λ a. bytes_eq a.id id) policy.actions

-- an action with these defaults and nothing else
abbrev pub plain_action : Bytes → Implicit → Implicit → Implicit → Action
plain_action id any inactive active = record { id = id; descriptions = []; messages = []; vendor = []; vendor_url = []; icon = []; any = any; inactive = inactive; active = active; annotations = [] }

-- the default of an action in a category
abbrev pub default_of : Action → Category → Implicit
default_of a Category.Any = a.any
default_of a Category.Inactive = a.inactive
default_of a Category.Active = a.active

-- the value of a rule in a category, where it has one
abbrev pub value_of : RuleEntry → Category → Option Implicit
value_of e Category.Any = e.any
value_of e Category.Inactive = e.inactive
value_of e Category.Active = e.active

-- the labels of a user's groups in the order of its row, and then its own; a group without a row has no label
abbrev pub places_of_row : World → UserRow → List Bytes
places_of_row world user = flat_map (λ gid. option_to_list (option_map (λ g. g.label) (group_row world gid))) user.gids ++ user.label ∷ []

-- the identity places of a user; one without a row has none
abbrev pub places : World → ℕ → List Bytes
places world uid = option_map_or (places_of_row world) (user_row world uid) []

-- whether a rule matches at a place, for an action and a category: one of its identity globs matches the label, one of its action globs the action, and its value for the category stands
abbrev pub matches_at : Bytes → Bytes → Category → RuleEntry → Bool
matches_at label action category e = any_of (λ glob. matches glob label) e.identities && any_of (λ glob. matches glob action) e.actions && is_some (value_of e category)

-- the last rule that matches at a place, with its own place among the rules
abbrev pub last_at : Policy → Bytes → Category → Bytes → Option (ℕ × RuleEntry)
last_at policy action category label = find_last (λ (place, entry). matches_at label action category entry) (enumerate_from 0 policy.entries)

-- the rule of the greatest matching pair: the last identity place at which a rule matches, and the last such rule there
abbrev pub greatest : Policy → Bytes → Category → List Bytes → Option (ℕ × RuleEntry)
greatest policy action category [] = None
greatest policy action category (label ∷ labels) = or_else (greatest policy action category labels) (last_at policy action category label)

-- the rule that decides for a user
abbrev pub deciding : Policy → World → ℕ → Category → Bytes → Option (ℕ × RuleEntry)
deciding policy world uid category action = greatest policy action category (places world uid)

-- the value, and what gave it: the rule, or else the action's default
abbrev pub value_by : Category → Action → Option (ℕ × RuleEntry) → Implicit × RuleSource
value_by category action None = (default_of action category, RuleSource.Default category)
value_by category action (Some (place, entry)) = (unwrap_or (value_of entry category) (default_of action category), RuleSource.Entry place)

-- the implicit value of an action for a user in a category, and what gave it; there is none for an unknown action
abbrev pub implicit : Policy → World → ℕ → Category → Bytes → Option (Implicit × RuleSource)
implicit policy world uid category id = option_map (λ a. value_by category a (deciding policy world uid category id)) (action_of policy id)

-- the value of an annotation, by its first pair
abbrev pub annotation : Action → Bytes → Option Bytes
annotation a key = option_map (λ p. p.value) (find (λ p. bytes_eq p.key key) a.annotations)

-- whether an annotation has this word among its words
abbrev pub annotates : Action → Bytes → Bytes → Bool
annotates a key word = option_map_or (λ text. any_of (bytes_eq word) (words text)) (annotation a key) false
