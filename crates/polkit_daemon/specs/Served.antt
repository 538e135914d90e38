-- A service from the words that name its plan, and how its end ends the command.
use Rattle.std.specs.Prelude.{◌≡◌, ◌⊎◌}
use Rattle.serve_words.specs.declared.plan.ServePlan.{ServePlan}
use Rattle.authority_service.specs.declared.ends.ServiceEnd.{ServiceEnd}
use Rattle.authority_service.specs.declared.ends.ServiceEnd.TheVariants as end
use Rattle.authority_service.specs.Service.{Outside, Serves}
use Rattle.polkit_daemon.specs.declared.status.Status.{Status}
use Rattle.polkit_daemon.specs.declared.status.Status.TheVariants as status

-- how the end of a service ends the command
abbrev pub status_of : ServiceEnd → Status
status_of end.Done = status.Done
status_of (end.TreeFault count) = status.TreeFault count
status_of (end.LoadRefused refused) = status.LoadRefused refused
status_of end.WriteFault = status.WriteFault
status_of (end.Full full) = status.JournalFull full.entries full.bytes
status_of (end.Admissions admitted) = status.Admissions admitted
status_of end.DoorFault = status.DoorFault
status_of end.NoMemory = status.NoMemory

-- the status is that of some end of a service
abbrev pub IsServiceStatus : Status → Type 0
IsServiceStatus s = (stop : ServiceEnd) × (s ≡ status_of stop)

-- The plan was served, and this is the status of how the service ended.
pub record IsServed (plan : ServePlan) (o : Outside) (s : Status) : Type 0 where
  pub stop : ServiceEnd
  pub status_is : s ≡ status_of stop
  pub served : Serves plan o stop

-- nothing was counted, made, taken back or written
pub record IsUntouched (o : Outside) : Type 0 where
  pub tree_faults : o.tree_faults ≡ o.tree_faults_before
  pub station : o.station ≡ o.station_before
  pub station_faults : o.station_faults ≡ o.station_faults_before
  pub held : o.held ≡ o.held_before
  pub write_faults : o.write_faults ≡ o.write_faults_before

-- The plan that words name was served, or memory was refused before it was made.
abbrev pub IsServedOrUntouched : ServePlan → Outside → Status → Type 0
IsServedOrUntouched plan o s = IsServed plan o s ⊎ ((s ≡ status.NoMemory) × IsUntouched o)
