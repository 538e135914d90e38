-- A scenario from a root: how the end of its replay, or of its audit, ends the command.
use Rattle.std.specs.Prelude.{◌≡◌, ◌≤◌, ℕ, Bool, List, Option}
use Rattle.pk_outside.specs.Causes.{Rose}
use Rattle.pk_outside.specs.Trees.{TreeTold}
use Rattle.authority_model.specs.declared.journal.Limits.{Limits}
use Rattle.policy_load.specs.declared.refused.LoadRefused.{LoadRefused}
use Rattle.policy_load.specs.declared.refused.LoadRefused.TheVariants as refused
use Rattle.replay_run.specs.declared.ends.ReplayEnd.{ReplayEnd}
use Rattle.replay_run.specs.declared.ends.ReplayEnd.TheVariants as end
use Rattle.replay_run.specs.Audited as audited
use Rattle.replay_run.specs.Rooted as rooted
use Rattle.replay_segments.specs.Ends as segments
use Rattle.pk_outside.specs.Stations.{StationTold}
use Rattle.scenario_run.specs.Room.{whole}
use Rattle.polkit_daemon.specs.declared.status.Status.{Status}
use Rattle.polkit_daemon.specs.declared.status.Status.TheVariants as status

-- how a first load that is refused ends the command
abbrev pub refused_status : LoadRefused → Status
refused_status (refused.TreeFault count) = status.TreeFault count
refused_status refused.NoMemory = status.NoMemory
refused_status other = status.LoadRefused other

-- how the end of a replay ends the command
abbrev pub status_of : ReplayEnd → Status
status_of end.Done = status.Done
status_of (end.TreeFault count) = status.TreeFault count
status_of (end.LoadRefused refused) = status.LoadRefused refused
status_of end.ReadFault = status.ReadFault
status_of end.WriteFault = status.WriteFault
status_of (end.Full full) = status.JournalFull full.entries full.bytes
status_of end.SegmentFault = status.SegmentFault
status_of (end.BadLine line kind) = status.BadLine line kind
status_of end.NoMemory = status.NoMemory

-- It ended in a way that the relation allows, and this is the status of that end.
pub record EndsSo (Ends : ReplayEnd → Type 0) (s : Status) : Type 0 where
  pub stop : ReplayEnd
  pub status_is : s ≡ status_of stop
  pub ends : Ends stop

-- A replay from a root, by its status. The faults are those that the tree counted, before and after.
abbrev pub ReplaysFrom : Option TreeTold → Option (List ℕ) → Limits → ℕ → ℕ → Option (List ℕ) → Option (List ℕ) → Bool → Option (List ℕ) → Option (List ℕ) → Status → Type 0
ReplaysFrom told root limits before now left_before left ended held_before held =
    EndsSo (rooted.ReplaysFrom told root (whole limits) before now left_before left ended held_before held)

-- an audit from a root, by its status
abbrev pub AuditsFrom : Option TreeTold → Option (List ℕ) → Limits → ℕ → ℕ → Option (List ℕ) → Option (List ℕ) → Bool → Option (List ℕ) → Option (List ℕ) → Status → Type 0
AuditsFrom told root limits before now left_before left ended held_before held =
    EndsSo (audited.AuditsFrom told root limits before now left_before left ended held_before held)

-- a replay over a journal in segments from a root, by its status
abbrev pub ReplaysInSegments : Option TreeTold → Option (List ℕ) → ℕ → ℕ → List ℕ → ℕ → Option (List ℕ) → Option (List ℕ) → Bool → Option (List ℕ) → Option (List ℕ) → Option StationTold → Option StationTold → Status → Type 0
ReplaysInSegments told root faults_before faults_now path per left_before left ended held_before held before now =
    EndsSo (segments.ReplaysInSegments told root faults_before faults_now path per left_before left ended held_before held before now)

-- a segment fault is told only where the station's count rose
abbrev pub StationFaults : ℕ → ℕ → Status → Type 0
StationFaults before now status.SegmentFault = Rose before now
StationFaults before now other = before ≤ now
