-- A connection over standard input and output, from a root: its first load, and the run that begins with it.
use Rattle.std.specs.Prelude.{◌≡◌, ◌≤◌, ◌⊎◌, ℕ, Bool, List, Option, Some}
use Rattle.pk_outside.specs.Causes.{Rose}
use Rattle.pk_outside.specs.Stations.{MakesClock, MakesSalt, StationTold}
use Rattle.pk_outside.specs.Trees.{TreeTold}
use Rattle.authority_model.specs.declared.journal.Limits.{Limits}
use Rattle.authority_model.specs.declared.load.Loaded.{Loaded}
use Rattle.pipe_run.specs.declared.ends.PipeEnd.{PipeEnd}
use Rattle.pipe_run.specs.declared.ends.PipeEnd.TheVariants as end
use Rattle.pipe_run.specs.Ends.{Pipes, Traffic, traffic}
use Rattle.pipe_run.specs.Supplies.{Supply}
use Rattle.polkit_daemon.specs.declared.status.Status.{Status}
use Rattle.polkit_daemon.specs.declared.status.Status.TheVariants as status
use Rattle.replay_run.specs.Rooted.{IsFirst, IsFirstRefused}

-- how the end of a run ends the command
abbrev pub status_of : PipeEnd → Status
status_of end.Done = status.Done
status_of end.ReadFault = status.ReadFault
status_of end.WriteFault = status.WriteFault
status_of (end.Full full) = status.JournalFull full.entries full.bytes
status_of (end.BadBytes kind at) = status.BadBytes kind at
status_of (end.Truncated rest) = status.Truncated rest
status_of end.NoMemory = status.NoMemory

-- What a pipe is made from: the user of its connection, its root in a tree that may tell its files, and the limits of its journal.
pub record Plan : Type 0 where
  pub uid : ℕ
  pub root : List ℕ
  pub told : Option TreeTold
  pub limits : Limits

-- nothing was read, written or taken
pub record IsUntouched (t : Traffic) : Type 0 where
  pub unread : t.left ≡ t.left_before
  pub unwritten : t.held ≡ t.held_before
  pub no_moment : t.clock ≡ t.clock_before
  pub no_word : t.salt ≡ t.salt_before

-- It began with the first load, up to which the tree had failed so often, and ended so.
pub record PipesFirst (p : Plan) (before now : ℕ) (t : Traffic) (stop : PipeEnd) : Type 0 where
  pub first : Loaded
  pub is_first : IsFirst p.told (Some p.root) first
  pub start : ℕ
  pub later : before ≤ start
  pub run : Pipes (record { uid = p.uid; first = first; told = p.told; root = p.root }) p.limits start now t stop

-- A pipe from a root, by its status. The tree counted so many faults before and after. Memory may be refused before the first load is known.
abbrev pub PipesFrom : Plan → ℕ → ℕ → Traffic → Status → Type 0
PipesFrom p before now t (status.TreeFault count) = IsUntouched t × (count ≡ now) × Rose before now
PipesFrom p before now t (status.LoadRefused refused) = IsUntouched t × IsFirstRefused p.told (Some p.root) refused
PipesFrom p before now t status.Done = PipesFirst p before now t end.Done
PipesFrom p before now t status.ReadFault = PipesFirst p before now t end.ReadFault
PipesFrom p before now t status.WriteFault = PipesFirst p before now t end.WriteFault
PipesFrom p before now t (status.JournalFull entries bytes) = PipesFirst p before now t (end.Full (record { entries = entries; bytes = bytes }))
PipesFrom p before now t (status.BadBytes kind at) = PipesFirst p before now t (end.BadBytes kind at)
PipesFrom p before now t (status.Truncated rest) = PipesFirst p before now t (end.Truncated rest)
PipesFrom p before now t status.NoMemory = IsUntouched t ⊎ PipesFirst p before now t end.NoMemory
PipesFrom p before now t other = ⊥

-- the same with a clock and a salt that a station made, which made nothing else
pub record PipesMade (p : Plan) (before now : ℕ) (station station' : Option StationTold) (left_before left : Option (List ℕ)) (ended : Bool) (held_before held : Option (List ℕ)) (s : Status) : Type 0 where
  pub clock_before : Supply
  pub clock : Supply
  pub salt_before : Supply
  pub salt : Supply
  pub with_clock : Option StationTold
  pub makes_clock : MakesClock station with_clock clock_before.left clock_before.gave
  pub makes_salt : MakesSalt with_clock station' salt_before.left salt_before.gave
  pub run : PipesFrom p before now (traffic left_before left ended held_before held clock_before clock salt_before salt) s
