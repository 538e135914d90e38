-- The process that an event names, by its pid and its start.
use Rattle.std.specs.Prelude.{ℕ, Option, Some, None}
use Rattle.pk_types.specs.declared.values.Subject.{Subject}
use Rattle.authority_model.specs.declared.event.Call.{Call}
use Rattle.authority_model.specs.declared.event.Event.{Event}

-- the process that a subject is
abbrev pub process_of : Subject → Option (ℕ × ℕ)
process_of (Subject.Process pid start) = Some (pid, start)
process_of (Subject.Session id) = None
process_of (Subject.BusName name) = None

-- the process that a call names: the one that is announced, or the subject
abbrev pub process_in : Call → Option (ℕ × ℕ)
process_in (Call.Announce pid start) = Some (pid, start)
process_in (Call.Check subject action details flags cancel) = process_of subject
process_in (Call.Register subject locale path) = process_of subject
process_in (Call.Unregister subject path) = process_of subject
process_in (Call.EnumerateGrants subject) = process_of subject
process_in (Call.RevokeAll subject) = process_of subject
process_in call = None

-- the process that an event names
abbrev pub named : Event → Option (ℕ × ℕ)
named (Event.Call serial quiet call) = process_in call
named event = None
