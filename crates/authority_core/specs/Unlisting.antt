-- A load without one process.
use Rattle.std.specs.Prelude.{ℕ, ◌==◌, Bool, not, ◌&&◌, [], is_some, filter}
use Rattle.authority_model.specs.declared.load.Loaded.{Loaded}
use Rattle.authority_model.specs.declared.world.Process.{Process as ProcessRow}
use Rattle.authority_model.specs.Worlds.{process_row}

-- whether a row is of this process
abbrev pub is_process : ℕ → ℕ → ProcessRow → Bool
is_process pid start row = (row.pid == pid) && (row.start == start)

-- whether a load lists this process
abbrev pub lists_process : Loaded → ℕ → ℕ → Bool
lists_process loaded pid start = is_some (process_row loaded.world pid start)

-- the load without each row of this process, and without its faults
abbrev pub unlisted : Loaded → ℕ → ℕ → Loaded
unlisted loaded pid start = record {
  policy = loaded.policy;
  world = record loaded.world { processes = filter (λ row. not (is_process pid start row)) loaded.world.processes };
  faults = [];
}
