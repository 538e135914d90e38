-- Why a slot stopped.
use Rattle.std.specs.Prelude.{◌≡◌, ◌++◌, [], ◌∷◌, ◌<◌, ◌⊎◌, ℕ, List, Option, Some, None, All, length}
use Rattle.history_lock.specs.Known.{Known}
use Rattle.history_lock.specs.declared.machine.EndCause.{EndCause}
use Rattle.pk_outside.specs.Causes.{Rose}
use Rattle.pk_outside.specs.Doors.{DoorTold, IsEmptied}
use Rattle.authority_model.specs.declared.journal.Item.{Item}
use Rattle.authority_model.specs.declared.journal.Limits.{Limits}
use Rattle.shared_authority.specs.Journals.{Fits}
use Rattle.connection_serve.specs.declared.ends.End.TheVariants as end
use Rattle.connection_serve.specs.declared.ends.LiveEnd.{LiveEnd}
use Rattle.connection_serve.specs.declared.ends.LiveEnd.TheVariants as live
use Rattle.service_slots.specs.declared.line.Line.{Line}
use Rattle.service_slots.specs.declared.stop.SlotStop.{SlotStop}
use Rattle.service_slots.specs.declared.stop.SlotStop.TheVariants as stop

-- The cause by which the lock ended a connection, if it did.
abbrev pub ended_by : LiveEnd → Option EndCause
ended_by (live.Plain (end.Ended cause)) = Some cause
ended_by _ = None

-- What a connection's end makes of its slot: one that the lock ended stops it.
abbrev pub stop_after : LiveEnd → Option SlotStop
stop_after (live.Plain (end.Ended cause)) = Some (stop.Ended cause)
stop_after _ = None

-- The lock ended none of the connections.
abbrev pub NoneEnded : List Line → Type 0
NoneEnded lines = All (λ line. ended_by line.end ≡ None) lines

-- The lock ended the last of the connections by this cause, and none before it.
pub record EndsLast (cause : EndCause) (lines : List Line) : Type 0 where
  pub before : List Line
  pub last : Line
  pub lines_are : lines ≡ before ++ last ∷ []
  pub by : ended_by last.end ≡ Some cause
  pub others : NoneEnded before

-- Why a slot stopped, by what its pass knows, what its door tells and counts, and its lines. `most` is how many connections it was to serve.
abbrev pub StopsAs : Limits → Option ℕ → Known Item → Option DoorTold → ℕ → List Line → SlotStop → Type 0
StopsAs limits most w told faults lines stop.Closed = IsEmptied told × NoneEnded lines
StopsAs limits most w told faults lines stop.DoorFailed = (0 < faults) × NoneEnded lines
StopsAs limits most w told faults lines stop.NoMemory = NoneEnded lines
StopsAs limits most w told faults lines stop.Served = (most ≡ Some (length lines)) × NoneEnded lines
StopsAs limits most w told faults lines (stop.Ended cause) = Fits limits cause w.history w.made × (NoneEnded lines ⊎ EndsLast cause lines)

-- A count of a slot's door rose where the slot stopped since its door failed, and else it stayed.
abbrev pub CountsAs : ℕ → ℕ → Option SlotStop → Type 0
CountsAs before now (Some stop.DoorFailed) = Rose before now
CountsAs before now _ = now ≡ before

-- The slot has stopped, for the cause that it notes.
abbrev pub IsStopped : Limits → Option ℕ → Known Item → Option DoorTold → ℕ → List Line → Option SlotStop → Type 0
IsStopped limits most w told faults lines None = ⊥
IsStopped limits most w told faults lines (Some why) = StopsAs limits most w told faults lines why

-- The slot stopped since its door had no link left, or since it had served as many connections as it was to serve.
abbrev pub HasServedAll : Option SlotStop → Type 0
HasServedAll why = (why ≡ Some stop.Closed) ⊎ (why ≡ Some stop.Served)

-- Why a slot that was shut had stopped, by what the control pass knows since and by the station's count.
abbrev pub StopTells : Limits → Option ℕ → Known Item → ℕ → ℕ → List Line → Option SlotStop → Type 0
StopTells limits most w before now lines None = ⊥
StopTells limits most w before now lines (Some stop.Closed) = NoneEnded lines
StopTells limits most w before now lines (Some stop.DoorFailed) = Rose before now × NoneEnded lines
StopTells limits most w before now lines (Some stop.NoMemory) = NoneEnded lines
StopTells limits most w before now lines (Some stop.Served) = (most ≡ Some (length lines)) × NoneEnded lines
StopTells limits most w before now lines (Some (stop.Ended cause)) = Fits limits cause w.history w.made × (NoneEnded lines ⊎ EndsLast cause lines)
