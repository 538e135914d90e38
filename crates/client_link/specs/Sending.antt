-- What a client sends.
use Rattle.std.specs.Prelude.{List, ℕ, Option, Result, Ok, Err}
use Rattle.pk_outside.specs.Streams.{Got, GotFront}
use Rattle.client_link.specs.declared.stop.LinkStop.{LinkStop}
use Rattle.client_link.specs.declared.stop.LinkStop.TheVariants as stop

-- a message was sent, or a prefix of it where the link failed or memory was refused
abbrev pub Sends : Option (List ℕ) → Option (List ℕ) → List ℕ → Result (Unit {0}) LinkStop → Type 0
Sends before now message (Ok done) = Got before now message
Sends before now message (Err stop.Failed) = GotFront before now message
Sends before now message (Err stop.NoMemory) = GotFront before now message
Sends before now message (Err other) = ⊥
