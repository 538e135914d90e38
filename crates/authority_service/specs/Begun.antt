-- What a service leaves that was begun, before its lines are printed.
use Rattle.std.specs.Prelude.{◌≡◌, ◌≤◌, ◌⊎◌, ℕ, List, [], Option, None, Result, Ok, Err, All, IfSome, length}
use Rattle.std.specs.List.{flat_map}
use Rattle.authority_laws.specs.Batches.{in_order}
use Rattle.authority_model.specs.declared.journal.History.{History}
use Rattle.authority_model.specs.declared.load.Loaded.{Loaded}
use Rattle.history_lock.specs.Known.{Known}
use Rattle.history_lock.specs.declared.machine.EndCause.{EndCause}
use Rattle.authority_model.specs.declared.journal.Item.{Item}
use Rattle.pk_outside.specs.Causes.{Rose}
use Rattle.pk_outside.specs.Stations.{StationTold}
use Rattle.pk_outside.specs.Trees.{TreeTold}
use Rattle.pk_outside.specs.declared.station.StationRefused.{StationRefused}
use Rattle.pk_outside.specs.declared.station.StationRefused.TheVariants as refused
use Rattle.serve_words.specs.declared.plan.ServePlan.{ServePlan}
use Rattle.service_slots.specs.declared.opening.ShutSlot.{ShutSlot}
use Rattle.service_slots.specs.Doors.{DoorsAreDone}
use Rattle.service_slots.specs.Served.{SlotsOf}
use Rattle.service_slots.specs.Stops.{HasServedAll, StopTells}
use Rattle.shared_authority.specs.Journals.{IsJournal}
use Rattle.authority_service.specs.declared.opening.Unbegun.{Unbegun}
use Rattle.authority_service.specs.declared.opening.Unbegun.TheVariants as unbegun
use Rattle.authority_service.specs.declared.running.Ran.{Ran}
use Rattle.authority_service.specs.Beginning.{BeginsWith}
use Rattle.authority_service.specs.Causes.{FitsJournal}
use Rattle.authority_service.specs.Running.{HasLoaded, LoadsAll, ended_slot}
use Rattle.authority_service.specs.Service.{DoorsBack, slots_of}

-- why no connection was served, by the refusal of a door
abbrev pub unbegun_by : StationRefused → Unbegun
unbegun_by refused.Failed = unbegun.DoorFault
unbegun_by refused.NoMemory = unbegun.NoMemory

-- the station counted a fault where a door is told to have failed
abbrev pub UnbegunCause : ℕ → ℕ → Unbegun → Type 0
UnbegunCause before now unbegun.DoorFault = Rose before now
UnbegunCause before now unbegun.NoMemory = Unit {0}

-- What the tree of a service told, and what its station told and counted before and after.
pub record Objects : Type 0 where
  pub tree : Option TreeTold
  pub station_before : Option StationTold
  pub station : Option StationTold
  pub station_faults_before : ℕ
  pub station_faults : ℕ

-- what a tree told, and what a station told and counted before and after
abbrev pub objects : Option TreeTold → Option StationTold → Option StationTold → ℕ → ℕ → Objects
objects tree station_before station station_faults_before station_faults = record {
  tree = tree;
  station_before = station_before;
  station = station;
  station_faults_before = station_faults_before;
  station_faults = station_faults;
}

-- No connection was served: the first doors of the plan were made, and came back as they were.
pub record IsShort (plan : ServePlan) (before after : Option StationTold) (faults_before faults : ℕ) (why : Unbegun) : Type 0 where
  pub doors : ℕ
  pub back : DoorsBack plan doors before after
  pub unserved : SlotsOf [] before [] → SlotsOf [] after []
  pub cause : UnbegunCause faults_before faults why

-- Why the slots had stopped, by what a pass knew at the end, and what this says of their doors and of the station's count.
pub record HaveStopped (plan : ServePlan) (out : Objects) (slots : List ShutSlot) : Type 0 where
  pub known : Known Item
  pub none_ended : All (λ s. ended_slot s.stop ≡ None) slots
  pub stops : All (λ s. StopTells plan.limits plan.stop_after known out.station_faults_before out.station_faults s.lines.items s.stop) slots
  pub done : All (λ s. HasServedAll s.stop) slots → DoorsAreDone plan.stop_after out.station_before out.station
  pub quiet : All (λ s. HasServedAll s.stop) slots → out.station_faults ≡ out.station_faults_before

-- The lock was not ended: all slots of the plan were served, and the loader loaded to its end.
pub record RanWhole (plan : ServePlan) (out : Objects) (history : History) (slots : List ShutSlot) (doors : ℕ) : Type 0 where
  pub all : (doors ≡ slots_of plan) × (length slots ≡ slots_of plan)
  pub stopped : HaveStopped plan out slots
  pub loads : LoadsAll plan.limits out.tree plan.root (in_order history)

-- A service that began with this first load left this journal and these slots, with the kept cause of the lock, if it had ended.
pub record HasRun (plan : ServePlan) (first : Loaded) (out : Objects) (history : History) (slots : List ShutSlot) (kept : Option EndCause) : Type 0 where
  pub legal : IsJournal (in_order history)
  pub within : length history.entries ≤ plan.limits.entries
  pub begins : BeginsWith first (in_order history)
  pub served : SlotsOf [] out.station_before [] → SlotsOf (in_order history) out.station (flat_map (λ s. s.lines.items) slots)
  pub doors : ℕ
  pub back : DoorsBack plan doors out.station_before out.station
  pub few : length slots ≤ slots_of plan
  pub cause : IfSome kept (λ c. FitsJournal plan.limits c (in_order history))
  pub loaded : (slots ≡ []) ⊎ HasLoaded plan.limits out.tree plan.root (in_order history)
  pub whole : kept ≡ None → RanWhole plan out history slots doors

-- What a service did that was to be begun with this first load.
abbrev pub Runs : ServePlan → Loaded → Objects → Result Ran Unbegun → Type 0
Runs plan first out (Ok ran) = HasRun plan first out ran.authority.history ran.slots.items ran.cause
Runs plan first out (Err why) = IsShort plan out.station_before out.station out.station_faults_before out.station_faults why
