-- Exit codes, and how a check ends whose link is given up.
use Rattle.std.specs.Prelude.{ℕ}
use Rattle.client_link.specs.declared.stop.LinkStop.{LinkStop}
use Rattle.client_link.specs.declared.stop.LinkStop.TheVariants as stop
use Rattle.pkcheck_tool.specs.declared.status.CheckStatus.{CheckStatus}
use Rattle.pkcheck_tool.specs.declared.status.CheckStatus.TheVariants as status

-- the exit code of each status
abbrev pub code_of : CheckStatus → ℕ
code_of status.Yes = 0
code_of status.No = 1
code_of status.Challenge = 2
code_of status.Dismissed = 3
code_of status.Error = 126
code_of status.Usage = 127
code_of status.StationFault = 127
code_of status.WriteFault = 127
code_of (status.BadShake fault) = 127
code_of (status.BadBytes _ at) = 127
code_of status.Cut = 127
code_of status.NoMemory = 70

-- a link that failed counts as a fault of the station, to which it is handed back
abbrev pub status_of_stop : LinkStop → CheckStatus
status_of_stop stop.Failed = status.StationFault
status_of_stop (stop.BadShake fault) = status.BadShake fault
status_of_stop (stop.BadBytes kind at) = status.BadBytes kind at
status_of_stop stop.Cut = status.Cut
status_of_stop stop.NoMemory = status.NoMemory
