-- Lists that are counted in 32 bits.
use Rattle.std.specs.Prelude.{◌<◌, ◌^◌, List, length}
use Rattle.authority_model.specs.declared.policy.Action.{Action}
use Rattle.authority_model.specs.declared.policy.Policy.{Policy}
use Rattle.authority_model.specs.declared.policy.RuleEntry.{RuleEntry}
use Rattle.authority_model.specs.declared.world.World.{World}
use Rattle.authority_model.specs.Lists.{Each}

-- a list has fewer than 2^32 items
abbrev pub IsShort : {A : Type 0} → List A → Type 0
IsShort xs = length xs < 2 ^ 32

-- each list of an action is short
pub record ActionFitsU32 (a : Action) : Type 0 where
  pub descriptions : IsShort a.descriptions
  pub messages : IsShort a.messages
  pub annotations : IsShort a.annotations

-- each list of a rule is short
pub record RuleFitsU32 (e : RuleEntry) : Type 0 where
  pub identities : IsShort e.identities
  pub actions : IsShort e.actions
  pub pairs : IsShort e.pairs

-- each list of a policy and of a world is short, at every depth
pub record FitsU32 (policy : Policy) (world : World) : Type 0 where
  pub actions : IsShort policy.actions
  pub each_action : Each ActionFitsU32 policy.actions
  pub entries : IsShort policy.entries
  pub each_entry : Each RuleFitsU32 policy.entries
  pub admins : IsShort policy.admins
  pub users : IsShort world.users
  pub memberships : Each (λ u. IsShort u.gids) world.users
  pub groups : IsShort world.groups
  pub sessions : IsShort world.sessions
  pub processes : IsShort world.processes
