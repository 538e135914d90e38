-- What a link's end makes of an agent.
use Rattle.std.specs.Prelude.{ℕ}
use Rattle.pk_outside.specs.declared.station.StationRefused.{StationRefused}
use Rattle.pk_outside.specs.declared.station.StationRefused.TheVariants as refused
use Rattle.client_link.specs.declared.stop.LinkStop.{LinkStop}
use Rattle.client_link.specs.declared.stop.LinkStop.TheVariants as stop
use Rattle.script_agent.specs.declared.status.AgentStatus.{AgentStatus}
use Rattle.script_agent.specs.declared.status.AgentStatus.TheVariants as status

-- a station that failed
abbrev pub status_of_refused : StationRefused → AgentStatus
status_of_refused refused.Failed = status.StationFault
status_of_refused refused.NoMemory = status.NoMemory

-- A link that failed is a fault of the station, which counts it when the link is hung up.
abbrev pub status_of : LinkStop → AgentStatus
status_of stop.Failed = status.StationFault
status_of (stop.BadShake fault) = status.BadShake fault
status_of (stop.BadBytes kind at) = status.BadBytes kind at
status_of stop.Cut = status.Cut
status_of stop.NoMemory = status.NoMemory

-- the exit status
abbrev pub code_of : AgentStatus → ℕ
code_of status.Done = 0
code_of status.Refused = 126
code_of status.NoMemory = 70
code_of _ = 127
