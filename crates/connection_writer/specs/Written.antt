-- What is written of a batch.
use Rattle.std.specs.Prelude.{ℕ, ⊤, List, Option, Result, Ok, Err}
use Rattle.pk_outside.specs.Causes.{Rose}
use Rattle.pk_outside.specs.Streams.{Got, GotFront, GotUpTo}
use Rattle.connection_writer.specs.declared.ends.WriteStop.{WriteStop}
use Rattle.connection_writer.specs.declared.ends.WriteStop.TheVariants as stop

-- These bytes were written, or a prefix of them.
abbrev pub Writes : {A : Type 0} → Option (List ℕ) → Option (List ℕ) → List ℕ → Result A WriteStop → Type 0
Writes before held bytes (Ok done) = Got before held bytes
Writes before held bytes (Err why) = GotFront before held bytes

-- These bytes were written but for those that are ready at their end, or a prefix of them.
abbrev pub WritesUpTo : {A : Type 0} → Option (List ℕ) → Option (List ℕ) → List ℕ → List ℕ → Result A WriteStop → Type 0
WritesUpTo before held bytes ready (Ok done) = GotUpTo before held bytes ready
WritesUpTo before held bytes ready (Err why) = GotFront before held bytes

-- A stop at the sink is counted by it. Want of memory has no cause.
abbrev pub StopCause : ℕ → ℕ → WriteStop → Type 0
StopCause before now stop.Failed = Rose before now
StopCause before now stop.NoMemory = ⊤

-- the same of an answer
abbrev pub HasStopped : {A : Type 0} → ℕ → ℕ → Result A WriteStop → Type 0
HasStopped before now (Ok done) = ⊤
HasStopped before now (Err why) = StopCause before now why
