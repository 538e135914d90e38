-- Why a tree or a station refused.
use Rattle.std.specs.Prelude.{◌≡◌, ℕ, ◌≤◌, Bool, true, false, Result, Ok, Err, IfErr, OnOk}
use Rattle.pk_outside.specs.Causes.{Rose}
use Rattle.pk_outside.specs.declared.tree.TreeRefused.{TreeRefused}
use Rattle.pk_outside.specs.declared.tree.TreeRefused.TheVariants as tree_refused
use Rattle.pk_outside.specs.declared.station.StationRefused.{StationRefused}
use Rattle.pk_outside.specs.declared.station.StationRefused.TheVariants as station_refused

-- A tree answers `Failed` only where its count rose. Want of memory needs no cause.
abbrev pub TreeRefusal : ℕ → ℕ → TreeRefused → Type 0
TreeRefusal before now tree_refused.Failed = Rose before now
TreeRefusal before now tree_refused.NoMemory = Unit {0}

-- A call on a tree failed; want of memory is no failure of the tree.
abbrev pub has_failed : {T : Type 0} → Result T TreeRefused → Bool
has_failed (Ok value) = false
has_failed (Err tree_refused.Failed) = true
has_failed (Err tree_refused.NoMemory) = false

-- A call on a tree never lowers its count, and is refused for its cause.
pub record TreeCause {T : Type 0} (before now : ℕ) (result : Result T TreeRefused) : Type 0 where
  pub later : before ≤ now
  pub refused : IfErr result (TreeRefusal before now)

-- A station answers `Failed` only where its count rose. Want of memory needs no cause, and leaves the count.
abbrev pub StationRefusal : ℕ → ℕ → StationRefused → Type 0
StationRefusal before now station_refused.Failed = Rose before now
StationRefusal before now station_refused.NoMemory = now ≡ before

-- A call on a station failed; want of memory is no failure of the station.
abbrev pub station_failed : {T : Type 0} → Result T StationRefused → Bool
station_failed (Ok value) = false
station_failed (Err station_refused.Failed) = true
station_failed (Err station_refused.NoMemory) = false

-- A call on a station never lowers its count, leaves it where it succeeds, and is refused for its cause.
pub record StationCause {T : Type 0} (before now : ℕ) (result : Result T StationRefused) : Type 0 where
  pub later : before ≤ now
  pub quiet : OnOk result (now ≡ before)
  pub refused : IfErr result (StationRefusal before now)
