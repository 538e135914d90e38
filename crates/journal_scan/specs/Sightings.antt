-- A load without one process, which a connection's sighter enters where it has seen that the process is gone.
use Rattle.std.specs.Prelude.{◌≡◌, ℕ, ◌==◌, Bool, true, not, ◌&&◌, [], List, Some, is_some, filter}
use Rattle.authority_model.specs.declared.journal.Item.{Item}
use Rattle.authority_model.specs.declared.load.Loaded.{Loaded}
use Rattle.authority_model.specs.declared.world.Process.{Process as ProcessRow}
use Rattle.authority_model.specs.Items.{is_load, loaded_of}
use Rattle.authority_model.specs.Worlds.{process_row}

-- whether a row is of this process
abbrev pub is_process : ℕ → ℕ → ProcessRow → Bool
is_process pid start row = (row.pid == pid) && (row.start == start)

-- whether a load lists this process
abbrev pub lists_process : Loaded → ℕ → ℕ → Bool
lists_process loaded pid start = is_some (process_row loaded.world pid start)

-- rows without each one of this process
abbrev pub other_rows : ℕ → ℕ → List ProcessRow → List ProcessRow
other_rows pid start rows = filter (λ row. not (is_process pid start row)) rows

-- the load without each row of this process, and without its faults
abbrev pub without_process : Loaded → ℕ → ℕ → Loaded
without_process loaded pid start = record {
  policy = loaded.policy;
  world = record loaded.world { processes = other_rows pid start loaded.world.processes };
  faults = [];
}

-- A load is another one without a process that this one lists.
abbrev pub LacksOne : Loaded → Loaded → Type 0
LacksOne before after = (pid : ℕ) × (start : ℕ) × (lists_process before pid start ≡ true) × (after ≡ without_process before pid start)

-- An item is a sighting: the Load of the last load without a process that this one lists.
pub record IsSighting (past : List Item) (i : Item) : Type 0 where
  pub load : is_load i.entry.event ≡ true
  pub lacks : (after : Loaded) × (i.loaded ≡ Some after) × LacksOne (loaded_of past) after
