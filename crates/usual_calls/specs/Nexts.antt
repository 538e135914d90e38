-- What a stream of bytes begins with, and what it asks.
use Rattle.std.specs.Prelude.{◌≡◌, ℕ, ◌≤◌, List, length, take}
use Rattle.dbus_values.specs.Next.{Seen, Partial, Bad, next_of}
use Rattle.dbus_values.specs.Streams.{IsForm}
use Rattle.authority_model.specs.declared.event.Event.{Event}
use Rattle.authority_model.specs.Given.{IsStepped}
use Rattle.authority_calls.specs.Events.{event_of}
use Rattle.usual_calls.specs.declared.next.NextEvent.{NextEvent}
use Rattle.usual_calls.specs.declared.next.NextEvent.TheVariants as next

-- the first bytes, so many of them, have the form of a message, which asks this
pub record Asks (bytes : List ℕ) (event : Event) (used : ℕ) : Type 0 where
  pub message : Seen
  pub form : IsForm (take used bytes) message
  pub within : used ≤ length bytes
  pub asks : event ≡ event_of message

-- what is told of a stream of bytes is what it begins with
abbrev pub Tells : List ℕ → NextEvent → Type 0
Tells bytes (next.Whole event used) = Asks bytes event used
Tells bytes next.Partial = next_of bytes ≡ Partial
Tells bytes (next.Bad kind at) = next_of bytes ≡ Bad kind at
Tells bytes next.NoMemory = Unit {0}

-- an event that is told is one that a step takes
abbrev pub TellsStep : NextEvent → Type 0
TellsStep (next.Whole event used) = IsStepped event
TellsStep _ = Unit {0}
