-- Why no further message is handed in.
use Rattle.std.specs.Prelude.{◌≡◌, ℕ, ◌<◌, List, [], ◌++◌, Option, Some, None, Bool, IsTrue, Result, Ok, Err, length}
use Rattle.pk_outside.specs.Causes.{FailsLast, Rose}
use Rattle.pk_outside.specs.Streams.{Gave}
use Rattle.history_lock.specs.Known.{Known}
use Rattle.history_lock.specs.declared.machine.EndCause.{EndCause}
use Rattle.authority_model.specs.declared.journal.Item.{Item}
use Rattle.authority_model.specs.declared.journal.Limits.{Limits}
use Rattle.dbus_values.specs.Next.{Partial, Bad, next_of}
use Rattle.shared_authority.specs.Journals.{Fits}
use Rattle.connection_reader.specs.declared.ends.ReaderEnd.{ReaderEnd}
use Rattle.connection_reader.specs.declared.ends.ReaderEnd.TheVariants as reader
use Rattle.connection_reader.specs.declared.ends.ReadStop.{ReadStop}
use Rattle.connection_reader.specs.declared.ends.ReadStop.TheVariants as stop

-- how a reader ends whose last message was followed by this
abbrev pub end_of : Result ReadStop EndCause → ReaderEnd
end_of (Ok stop.Done) = reader.Done
end_of (Ok (stop.Truncated rest)) = reader.Truncated rest
end_of (Ok (stop.BadBytes kind at)) = reader.BadBytes kind at
end_of (Ok stop.ReadFault) = reader.ReadFault
end_of (Ok stop.SightFault) = reader.SightFault
end_of (Ok stop.NoMemory) = reader.NoMemory
end_of (Err cause) = reader.Ended cause

-- What a stop says of what is unread, and of the source.
abbrev pub Stops : Bool → List ℕ → Option ReadStop → Type 0
Stops ended unread None = Unit {0}
Stops ended unread (Some stop.Done) = (next_of unread ≡ Partial) × (unread ≡ []) × IsTrue ended
Stops ended unread (Some (stop.Truncated rest)) = (next_of unread ≡ Partial) × (0 < rest) × (rest ≡ length unread) × IsTrue ended
Stops ended unread (Some (stop.BadBytes kind at)) = next_of unread ≡ Bad kind at
Stops ended unread (Some stop.ReadFault) = next_of unread ≡ Partial
Stops ended unread (Some stop.SightFault) = Unit {0}
Stops ended unread (Some stop.NoMemory) = Unit {0}

-- More was read behind what was unread.
pub record ReadsOn (left_before left : Option (List ℕ)) (ended : Bool) (before now : List ℕ) (result : Option ReadStop) : Type 0 where
  pub more : List ℕ
  pub gave : Gave left_before left more
  pub behind : now ≡ before ++ more
  pub stops : Stops ended now result

-- The lock has ended by this cause, and the pass knows it.
abbrev pub IsStoppedBy : Limits → EndCause → Known Item → Type 0
IsStoppedBy limits cause w = Fits limits cause w.history w.made × (w.ended ≡ Some cause)

-- A read fault was counted by the last read of the source, and by no read before it. Otherwise the count is as it was.
abbrev pub StopFaults : {S : Type 0} → (S → Option (List ℕ)) → (S → ℕ) → S → S → Option ReadStop → Type 0
StopFaults left faults before now (Some stop.ReadFault) = FailsLast left faults before now
StopFaults left faults before now other = faults now ≡ faults before

-- the same of what may be refused
abbrev pub TurnFaults : {S : Type 0} → (S → Option (List ℕ)) → (S → ℕ) → S → S → Result (Option ReadStop) EndCause → Type 0
TurnFaults left faults before now (Ok stop) = StopFaults left faults before now stop
TurnFaults left faults before now (Err cause) = faults now ≡ faults before

-- A sight fault was counted by the last look, and by no look before it. Otherwise the count is as it was.
abbrev pub SightFaults : ℕ → ℕ → Option ReadStop → Type 0
SightFaults before now (Some stop.SightFault) = Rose before now
SightFaults before now other = now ≡ before

-- the same of what may be refused
abbrev pub TurnSights : ℕ → ℕ → Result (Option ReadStop) EndCause → Type 0
TurnSights before now (Ok stop) = SightFaults before now stop
TurnSights before now (Err cause) = now ≡ before
