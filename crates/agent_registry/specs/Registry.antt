-- The registrations in force, and the change of them that is staged.
use Rattle.std.specs.Prelude.{◌≡◌, ℕ, ◌<◌, ⊤, List, Option, Some, None}
use Rattle.authority_model.specs.declared.pending.Agent.{Agent}
use Rattle.entry_changes.specs.declared.change.AgentChange.{AgentChange}
use Rattle.key_index.specs.Held.{key_held}
use Rattle.agent_registry.specs.declared.staged.Staged.{Staged}
use Rattle.agent_registry.specs.declared.staged.Staged.TheVariants.{Keep, Add, End}

-- the agents in the order of registration, and the change that is staged
pub record Registry : Type 0 where
  pub items : List Agent
  pub staged : Option AgentChange

-- the change in what is staged
abbrev pub change_of : Staged → AgentChange
change_of Keep = AgentChange.Keep
change_of (Add key agent) = AgentChange.Add agent
change_of (End key) = AgentChange.Drop key

-- what is staged can be carried out without memory: there is room for an agent that comes in force, and this is its key
abbrev pub IsReadyFor : ℕ → Staged → Type 0
IsReadyFor room Keep = ⊤
IsReadyFor room (Add key agent) = (0 < room) × (key_held key ≡ agent.key)
IsReadyFor room (End key) = ⊤

-- the same of what may be staged
abbrev pub IsReady : ℕ → Option Staged → Type 0
IsReady room None = ⊤
IsReady room (Some staged) = IsReadyFor room staged
