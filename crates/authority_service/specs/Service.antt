-- What a service does, by how it ended.
use Rattle.std.specs.Prelude.{◌≡◌, ◌⊎◌, ◌++◌, ◌*◌, ◌+◌, ◌≤◌, ℕ, Bool, true, false, if◌then◌else◌, List, [], Option, None, Some, Ok, Err, IfSome, All, length, map}
use Rattle.std.specs.List.{list_any}
use Rattle.authority_laws.specs.Batches.{in_order}
use Rattle.authority_model.specs.declared.journal.History.{History}
use Rattle.authority_model.specs.declared.load.Loaded.{Loaded}
use Rattle.authority_model.specs.Items.{items_of}
use Rattle.authority_model.specs.Licensed.{AllLicensed}
use Rattle.history_lock.specs.declared.machine.EndCause.{EndCause}
use Rattle.history_lock.specs.declared.machine.EndCause.TheVariants as cause
use Rattle.journal_scan.specs.declared.counts.Totals.{Totals}
use Rattle.journal_scan.specs.declared.counts.TheConstants.{PLACES}
use Rattle.journal_scan.specs.Counts.{totals_of}
use Rattle.journal_scan.specs.Orderly.{IsOrderly}
use Rattle.pk_outside.specs.Causes.{Rose, one_more}
use Rattle.pk_outside.specs.Stations.{DoorBack, StationTold}
use Rattle.pk_outside.specs.Streams.{Got, GotFront}
use Rattle.pk_outside.specs.Trees.{TreeTold}
use Rattle.policy_load.specs.Loads.{load_of}
use Rattle.serve_words.specs.declared.plan.ServePlan.{ServePlan}
use Rattle.service_slots.specs.declared.line.Line.{Line}
use Rattle.service_slots.specs.declared.opening.ShutSlot.{ShutSlot}
use Rattle.service_slots.specs.declared.stop.SlotStop.{SlotStop}
use Rattle.service_slots.specs.declared.stop.SlotStop.TheVariants as stop
use Rattle.service_slots.specs.Doors.{door_made, DoorsAreDone}
use Rattle.service_slots.specs.Served.{SlotsOf}
use Rattle.service_slots.specs.Stops.{NoneEnded}
use Rattle.shared_authority.specs.Journals.{IsJournal}
use Rattle.authority_service.specs.declared.ends.ServiceEnd.{ServiceEnd}
use Rattle.authority_service.specs.declared.ends.ServiceEnd.TheVariants as end
use Rattle.authority_service.specs.Beginning.{BeginsWith}
use Rattle.authority_service.specs.Causes.{FitsJournal}
use Rattle.authority_service.specs.Lines.{closing_text, opening_text, scanned}
use Rattle.authority_service.specs.Looks.{HasNoUnlisted, NeverLooked}
use Rattle.authority_service.specs.Places.{first_doors, opened_behind}
use Rattle.authority_service.specs.Running.{HasLoaded, LoadsAll}

-- What the objects of the outside told and counted before a service and after it: its tree, its station and its output.
pub record Outside : Type 0 where
  pub tree : Option TreeTold
  pub tree_faults_before : ℕ
  pub tree_faults : ℕ
  pub station_before : Option StationTold
  pub station : Option StationTold
  pub station_faults_before : ℕ
  pub station_faults : ℕ
  pub held_before : Option (List ℕ)
  pub held : Option (List ℕ)
  pub write_faults_before : ℕ
  pub write_faults : ℕ

-- what a tree, a station and an output told and counted, before a service and after it
abbrev pub outside : Option TreeTold → ℕ → ℕ → Option StationTold → Option StationTold → ℕ → ℕ → Option (List ℕ) → Option (List ℕ) → ℕ → ℕ → Outside
outside tree tree_faults_before tree_faults station_before station station_faults_before station_faults held_before held write_faults_before write_faults = record {
  tree = tree;
  tree_faults_before = tree_faults_before;
  tree_faults = tree_faults;
  station_before = station_before;
  station = station;
  station_faults_before = station_faults_before;
  station_faults = station_faults;
  held_before = held_before;
  held = held;
  write_faults_before = write_faults_before;
  write_faults = write_faults;
}

-- What a service leaves: the closed journal, the line of each connection that it served, and how many doors were made.
pub record Left : Type 0 where
  pub journal : History
  pub lines : List Line
  pub doors : ℕ

-- The station made the first `count` doors of the plan, each with a clock and a salt, and with looks at processes if the plan is live, and nothing else. They came back, behind those before, in their order: one for each slot. No link was dialled, and no file was made.
pub record DoorsBack (plan : ServePlan) (count : ℕ) (before after : Option StationTold) : Type 0 where
  pub where_told : (now : StationTold) → after ≡ Some now
      → (old : StationTold) × (before ≡ Some old) × (backs : List DoorBack)
      × (now ≡ record (opened_behind plan.live old count) { shut = old.shut ++ backs }) × (map (λ back. door_made back.door) backs ≡ first_doors plan.doors plan.slots old.doors count)

-- What holds of the journal and of the lines, whatever the end: the journal is legal and has no more entries than the plan allows, each yes in it is licensed, each line speaks of the link that came back in its place, and where there is a line the loader loaded until it ended. Unless the plan is live no connection looked at a process.
pub record IsLeft (plan : ServePlan) (out : Outside) (left : Left) : Type 0 where
  pub legal : IsJournal (in_order left.journal)
  pub within : length left.journal.entries ≤ plan.limits.entries
  pub licensed : AllLicensed (items_of left.journal)
  -- where no door came back to the station before
  pub slots : SlotsOf [] out.station_before [] → SlotsOf (in_order left.journal) out.station left.lines
  pub doors : DoorsBack plan left.doors out.station_before out.station
  pub loaded : (left.lines ≡ []) ⊎ HasLoaded plan.limits out.tree plan.root (in_order left.journal)
  pub looks : plan.live ≡ false → All NeverLooked left.lines

-- what a service writes: what the first load skipped, and then the lines of the journal and of the connections; or in place of all of these the audit text of the journal
abbrev pub printed : ServePlan → Loaded → Left → List ℕ
printed plan first left = opening_text plan.audit first ++ closing_text plan.audit left.journal left.lines

-- the output counted one fault
abbrev pub FailedOnce : Outside → Type 0
FailedOnce out = out.write_faults ≡ one_more out.write_faults_before

-- the text was written whole, and the output counted no fault
abbrev pub Wrote : Outside → List ℕ → Type 0
Wrote out text = Got out.held_before out.held text × (out.write_faults ≡ out.write_faults_before)

-- The text was written whole and without a fault, or a front of it was, and the output counted one fault.
abbrev pub IsWritten : Outside → List ℕ → Type 0
IsWritten out text = Wrote out text ⊎ (GotFront out.held_before out.held text × FailedOnce out)

-- the first load is that of the tree, where the tree tells its files
abbrev pub IsFirst : ServePlan → Outside → Loaded → Type 0
IsFirst plan out first = IfSome out.tree (λ tree. load_of tree plan.root ≡ Ok first)

-- A service began with this first load, and left this.
pub record HasServed (plan : ServePlan) (out : Outside) (first : Loaded) (left : Left) : Type 0 where
  pub is_first : IsFirst plan out first
  pub is_left : IsLeft plan out left
  pub begins : BeginsWith first (in_order left.journal)
  pub orderly : IsOrderly (map scanned left.lines) (items_of left.journal)
  pub unlisted : plan.live ≡ false → HasNoUnlisted (items_of left.journal)
  pub written : IsWritten out (printed plan first left)

-- how many slots a plan has
abbrev pub slots_of : ServePlan → ℕ
slots_of plan = length plan.doors * plan.slots

-- As many loads were made as were wanted before the Stop, besides the first and those by which a connection's sighter took a process out.
abbrev pub AreAllLoads : Totals → Type 0
AreAllLoads totals = totals.loads + totals.refused ≡ totals.wanted + 1 + totals.unlisted

-- The lock was not ended: each slot had its door, no connection was ended by the lock, and the loader loaded to its end.
pub record WasWhole (plan : ServePlan) (out : Outside) (left : Left) : Type 0 where
  pub doors : left.doors ≡ slots_of plan
  pub none_ended : NoneEnded left.lines
  pub loads : LoadsAll plan.limits out.tree plan.root (in_order left.journal)
  pub all_loads : AreAllLoads (totals_of (items_of left.journal))

-- Each door that came back has no link left, or took back as many as each slot was to serve.
abbrev pub AllServed : ServePlan → Outside → Type 0
AllServed plan out = DoorsAreDone plan.stop_after out.station_before out.station

-- How many passes are made at most for so many connections and slots. A slot has one, and two for each connection and for the next that it waits for; live connections have a third. The loader and the service have one each.
abbrev pub most_passes : Bool → ℕ → ℕ → ℕ
most_passes true lines slots = 3 * lines + 4 * slots + 2
most_passes false lines slots = 2 * lines + 3 * slots + 2

-- all passes can have been made for so many connections and slots
abbrev pub CanAdmitAll : Bool → ℕ → ℕ → Type 0
CanAdmitAll live lines slots = PLACES ≤ most_passes live lines slots

-- so many passes cannot have been made by fewer connections and slots
abbrev pub AdmitsAll : ServePlan → Left → Type 0
AdmitsAll plan left = CanAdmitAll plan.live (length left.lines) (slots_of plan)

-- nothing was made, taken or written
pub record IsUntouched (out : Outside) : Type 0 where
  pub station : out.station ≡ out.station_before
  pub station_faults : out.station_faults ≡ out.station_faults_before
  pub held : out.held ≡ out.held_before
  pub write_faults : out.write_faults ≡ out.write_faults_before

-- No connection was served: the doors that were made came back as they were, and what is written of the first load was written.
pub record IsUnbegun (plan : ServePlan) (out : Outside) : Type 0 where
  pub first : Loaded
  pub is_first : IsFirst plan out first
  pub doors : ℕ
  pub back : DoorsBack plan doors out.station_before out.station
  pub unserved : SlotsOf [] out.station_before [] → SlotsOf [] out.station []
  pub written : IsWritten out (opening_text plan.audit first)

-- Memory was refused, whenever that was: nothing was served, or what was left is as always. A front of the text was written, and the output counted a fault at most once.
pub record WasCutShort (plan : ServePlan) (out : Outside) : Type 0 where
  pub first : Loaded
  pub is_first : IsFirst plan out first
  pub left : Left
  pub is_left : IsLeft plan out left
  pub begins : BeginsWith first (in_order left.journal)
  pub written : GotFront out.held_before out.held (printed plan first left)
  pub faults : (out.write_faults ≡ out.write_faults_before) ⊎ FailedOnce out

-- The station counted no fault: no door was refused, and none failed.
abbrev pub CountedNone : Outside → Type 0
CountedNone out = out.station_faults ≡ out.station_faults_before

-- a service that was served, of which more holds
pub record Ended (plan : ServePlan) (out : Outside) (More : Loaded → Left → Type 0) : Type 0 where
  pub first : Loaded
  pub left : Left
  pub served : HasServed plan out first left
  pub more : More first left

-- What a service does, by how it ended.
abbrev pub Serves : ServePlan → Outside → ServiceEnd → Type 0
Serves plan out (end.TreeFault count) = IsUntouched out × (count ≡ out.tree_faults) × Rose out.tree_faults_before out.tree_faults
Serves plan out (end.LoadRefused refused) = IsUntouched out × IfSome out.tree (λ tree. load_of tree plan.root ≡ Err refused)
Serves plan out end.NoMemory = IsUntouched out ⊎ (IsUnbegun plan out ⊎ WasCutShort plan out)
Serves plan out end.DoorFault = Rose out.station_faults_before out.station_faults × (IsUnbegun plan out ⊎ Ended plan out (λ first left. WasWhole plan out left))
Serves plan out end.WriteFault = FailedOnce out × CountedNone out × (IsUnbegun plan out ⊎ Ended plan out (λ first left. WasWhole plan out left × AllServed plan out))
Serves plan out end.Done = CountedNone out × Ended plan out (λ first left. WasWhole plan out left × AllServed plan out × Wrote out (printed plan first left))
Serves plan out (end.Full full) = Ended plan out (λ first left. FitsJournal plan.limits (cause.JournalFull full.entries full.bytes) (in_order left.journal))
Serves plan out (end.Admissions admitted) = Ended plan out (λ first left. FitsJournal plan.limits (cause.Admissions admitted) (in_order left.journal) × AdmitsAll plan left)

-- # How the end is chosen

-- memory was refused to a slot or to its door
abbrev pub has_no_memory : Option SlotStop → Bool
has_no_memory (Some stop.NoMemory) = true
has_no_memory _ = false

-- the door of a slot failed
abbrev pub has_failed_door : Option SlotStop → Bool
has_failed_door (Some stop.DoorFailed) = true
has_failed_door _ = false

-- the end of a service whose lock was not ended, by why its slots stopped and whether all was written
abbrev pub end_of_stops : List ShutSlot → Bool → ServiceEnd
end_of_stops slots written =
    if list_any (λ s. has_no_memory s.stop) slots then end.NoMemory else
    (if list_any (λ s. has_failed_door s.stop) slots then end.DoorFault else
    (if written then end.Done else end.WriteFault))

-- the end of a service: the kept cause of the lock comes first
abbrev pub end_of : Option EndCause → List ShutSlot → Bool → ServiceEnd
end_of (Some (cause.JournalFull entries bytes)) slots written = end.Full (record { entries = entries; bytes = bytes })
end_of (Some (cause.Admissions admitted)) slots written = end.Admissions admitted
end_of (Some cause.NoMemory) slots written = end.NoMemory
end_of None slots written = end_of_stops slots written
