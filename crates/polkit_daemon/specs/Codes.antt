-- The exit codes of the daemon.
use Rattle.std.specs.Prelude.{ℕ}
use Rattle.polkit_daemon.specs.declared.status.Status.{Status}
use Rattle.polkit_daemon.specs.declared.status.Status.TheVariants as status

-- the exit code of the program at each status
abbrev pub code_of : Status → ℕ
code_of status.Done = 0
code_of status.Usage = 1
code_of (status.TreeFault count) = 2
code_of (status.LoadRefused refused) = 2
code_of status.ReadFault = 3
code_of status.WriteFault = 4
code_of (status.JournalFull entries bytes) = 5
code_of (status.Admissions admitted) = 5
code_of (status.BadLine line _) = 6
code_of (status.BadBytes _ at) = 6
code_of (status.Truncated rest) = 6
code_of status.DoorFault = 7
code_of status.SegmentFault = 8
code_of status.NoMemory = 70
