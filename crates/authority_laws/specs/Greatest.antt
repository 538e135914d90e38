-- The rule that decides, said of all pairs of an identity place and a rule that match.
use Rattle.std.specs.Prelude.{ℕ, ◌<◌, ◌≤◌, ◌≡◌, ◌⊎◌, true, List, Some, slice_get}
use Rattle.pk_types.specs.declared.values.Implicit.{Implicit}
use Rattle.pk_types.specs.declared.values.Category.{Category}
use Rattle.glob_match.specs.Glob.{matches}
use Rattle.authority_model.specs.declared.policy.RuleEntry.{RuleEntry}
use Rattle.authority_model.specs.declared.world.World.{World}
use Rattle.authority_model.specs.declared.world.User.{User as UserRow}
use Rattle.authority_model.specs.declared.world.Group.{Group as GroupRow}
use Rattle.authority_model.specs.Lists.{Has}
use Rattle.authority_model.specs.Words.{Bytes}
use Rattle.authority_model.specs.Worlds.{group_row}
use Rattle.authority_model.specs.Rules.{value_of}

-- the label of a group that a user's row lists
pub record IsGroupLabel (world : World) (user : UserRow) (label : Bytes) : Type 0 where
  pub gid : ℕ
  pub gid_listed : Has user.gids gid
  pub group : GroupRow
  pub group_is : group_row world gid ≡ Some group
  pub label_is : group.label ≡ label

-- A rule matches a label, an action and a category: one of its identity globs matches the label, one of its action globs matches the action, and it has a value for the category.
pub record Matches (label action : Bytes) (category : Category) (rule : RuleEntry) : Type 0 where
  pub identity : Bytes
  pub identity_listed : Has rule.identities identity
  pub identity_matches : matches identity label ≡ true
  pub glob : Bytes
  pub glob_listed : Has rule.actions glob
  pub glob_matches : matches glob action ≡ true
  pub value : Implicit
  pub value_is : value_of rule category ≡ Some value

-- A matching pair: the rule at place y matches the label at place x, both counted from 0.
pub record IsPair (labels : List Bytes) (rules : List RuleEntry) (action : Bytes) (category : Category) (x y : ℕ) (rule : RuleEntry) : Type 0 where
  pub label : Bytes
  pub label_is : slice_get labels x ≡ Some label
  pub rule_is : slice_get rules y ≡ Some rule
  pub matches : Matches label action category rule

-- one pair of places is at most another: the identity places decide first
abbrev pub IsAtMost : ℕ → ℕ → ℕ → ℕ → Type 0
IsAtMost x y x' y' = (x < x') ⊎ ((x ≡ x') × (y ≤ y'))

-- a matching pair has this rule at place y, and every matching pair is at most that one
pub record IsGreatest (labels : List Bytes) (rules : List RuleEntry) (action : Bytes) (category : Category) (y : ℕ) (rule : RuleEntry) : Type 0 where
  pub x : ℕ
  pub pair : IsPair labels rules action category x y rule
  pub greatest : (x' y' : ℕ) (rule' : RuleEntry) → IsPair labels rules action category x' y' rule' → IsAtMost x' y' x y
