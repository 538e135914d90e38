-- The temporary authorizations that nothing ended, and the change of them that is staged.
use Rattle.std.specs.Prelude.{◌≡◌, ℕ, ◌<◌, ⊤, List, Option, Some, None}
use Rattle.authority_model.specs.declared.verdict.GrantRow.{GrantRow}
use Rattle.entry_changes.specs.declared.change.GrantChange.{GrantChange}
use Rattle.key_index.specs.Held.{key_held}
use Rattle.grant_store.specs.declared.staged.Staged.{Staged}
use Rattle.grant_store.specs.declared.staged.Staged.TheVariants.{Keep, Add, EndId, EndKey}
use Rattle.grant_store.specs.Listed.{KeyNumbers, room_at}

-- the temporary authorizations by rising number, and the change that is staged
pub record Grants : Type 0 where
  pub items : List GrantRow
  pub staged : Option GrantChange

-- the change in what is staged
abbrev pub change_of : Staged → GrantChange
change_of Keep = GrantChange.Keep
change_of (Add key row) = GrantChange.Add row
change_of (EndId id) = GrantChange.EndId id
change_of (EndKey key) = GrantChange.EndKey key

-- what is staged can be carried out without memory: there is room for one that is made, also at its subject, and this is its key
abbrev pub IsReadyFor : ℕ → KeyNumbers → Staged → Type 0
IsReadyFor room lists Keep = ⊤
IsReadyFor room lists (Add key row) = (0 < room) × (0 < room_at lists key) × (key_held key ≡ row.key)
IsReadyFor room lists (EndId id) = ⊤
IsReadyFor room lists (EndKey key) = ⊤

-- the same of what may be staged
abbrev pub IsReady : ℕ → KeyNumbers → Option Staged → Type 0
IsReady room lists None = ⊤
IsReady room lists (Some staged) = IsReadyFor room lists staged
