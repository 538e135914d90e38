-- The next message that a client is sent.
use Rattle.std.specs.Prelude.{◌≡◌, ℕ, Bool, IsTrue, List, ◌++◌, Result, Ok, Err}
use Rattle.dbus_values.specs.Next.{Seen, Whole, Partial, Bad, next_of}
use Rattle.dbus_values.specs.Streams.{IsForm}
use Rattle.client_link.specs.declared.stop.LinkStop.{LinkStop}
use Rattle.client_link.specs.declared.stop.LinkStop.TheVariants as stop

-- a whole message stands at the front of the bytes
pub record BeginsWhole (bytes : List ℕ) : Type 0 where
  pub message : Seen
  pub used : ℕ
  pub whole : next_of bytes ≡ Whole message used

-- The bytes that were not taken, with those that were read: they begin with a whole message, or with
-- a fault, or the link ended or failed before.
abbrev pub Awaits : Bool → List ℕ → List ℕ → Result (Unit {0}) LinkStop → Type 0
Awaits ended bytes now (Ok done) = (now ≡ bytes) × BeginsWhole bytes
Awaits ended bytes now (Err stop.Failed) = next_of bytes ≡ Partial
Awaits ended bytes now (Err (stop.BadShake fault)) = ⊥
Awaits ended bytes now (Err (stop.BadBytes kind at)) = next_of bytes ≡ Bad kind at
Awaits ended bytes now (Err stop.Cut) = (next_of bytes ≡ Partial) × IsTrue ended
Awaits ended bytes now (Err stop.NoMemory) = Unit {0}

-- a message was taken from the front of the bytes, and this is what it tells
pub record IsTaken {A : Type 0} (tells : Seen → A) (bytes rest : List ℕ) (told : A) : Type 0 where
  pub message : Seen
  pub text : List ℕ
  pub form : IsForm text message
  pub cut : bytes ≡ text ++ rest
  pub told_is : told ≡ tells message

-- What the next message tells, or what the bytes show in its place.
abbrev pub Brings : {A : Type 0} → (Seen → A) → Bool → List ℕ → List ℕ → Result A LinkStop → Type 0
Brings tells ended bytes rest (Ok told) = IsTaken tells bytes rest told
Brings tells ended bytes rest (Err stop.Failed) = next_of bytes ≡ Partial
Brings tells ended bytes rest (Err (stop.BadShake fault)) = ⊥
Brings tells ended bytes rest (Err (stop.BadBytes kind at)) = next_of bytes ≡ Bad kind at
Brings tells ended bytes rest (Err stop.Cut) = (next_of bytes ≡ Partial) × IsTrue ended
Brings tells ended bytes rest (Err stop.NoMemory) = Unit {0}
