-- The client's half of the handshake over a link.
use Rattle.std.specs.Prelude.{◌≡◌, ℕ, ◌≤◌, Bool, IsTrue, List, [], ◌++◌, length, drop, Option, None, Result, Ok, Err}
use Rattle.pk_outside.specs.Streams.{Gave, Got}
use Rattle.link_handshake.specs.Clients.{ClientShaking, awaited, client_over, client_to_come, first_bytes}
use Rattle.link_handshake.specs.Shakes.{Open, Begun, Failed}
use Rattle.link_handshake.specs.declared.server.ShakeFault.{ShakeFault}
use Rattle.client_link.specs.declared.shaking.Feeding.{Feeding}
use Rattle.client_link.specs.declared.shaking.Feeding.TheVariants as feeding
use Rattle.client_link.specs.declared.shaking.TheConstants.{BEGIN_LINE}
use Rattle.client_link.specs.declared.stop.LinkStop.{LinkStop}
use Rattle.client_link.specs.declared.stop.LinkStop.TheVariants as stop
use Rattle.pk_outside.specs.Allowing.{IsFront}

-- all that a client of that uid sends before its messages: byte 0, its line `AUTH EXTERNAL`, and `BEGIN`
abbrev pub client_bytes : ℕ → List ℕ
client_bytes uid = first_bytes uid ++ BEGIN_LINE.now

-- Some bytes of the server were fed: the handshake awaits more, or it is over behind the first of them.
abbrev pub Feeds : ClientShaking → List ℕ → ClientShaking → Feeding → Type 0
Feeds before bytes now feeding.More = (client_over now ≡ None) × (client_to_come now [] ≡ Open) × ((more : List ℕ) → client_to_come before (bytes ++ more) ≡ client_to_come now more)
Feeds before bytes now (feeding.Begun count) = (count ≤ length bytes) × ((more : List ℕ) → client_to_come before (bytes ++ more) ≡ Begun (drop count bytes ++ more))
Feeds before bytes now (feeding.Fault fault) = (more : List ℕ) → client_to_come before (bytes ++ more) ≡ Failed fault

-- The server's line ends within these bytes, whatever follows them, and accepts the client; these stand behind it.
abbrev pub BeginsIn : List ℕ → List ℕ → Type 0
BeginsIn bytes rest = (more : List ℕ) → awaited (bytes ++ more) ≡ Begun (rest ++ more)

-- The server's line has this fault, whatever follows these bytes.
abbrev pub FailsIn : List ℕ → ShakeFault → Type 0
FailsIn bytes fault = (more : List ℕ) → awaited (bytes ++ more) ≡ Failed fault

-- These bytes of the server were read, and those that stand behind its line are left.
abbrev pub Accepts : Bool → List ℕ → List ℕ → Result (Unit {0}) LinkStop → Type 0
Accepts ended read rest (Ok done) = BeginsIn read rest
Accepts ended read rest (Err stop.Failed) = awaited read ≡ Open
Accepts ended read rest (Err (stop.BadShake fault)) = FailsIn read fault
Accepts ended read rest (Err (stop.BadBytes _ at)) = ⊥
Accepts ended read rest (Err stop.Cut) = (awaited read ≡ Open) × IsTrue ended
Accepts ended read rest (Err stop.NoMemory) = Unit {0}

-- The same, with the bytes that the client wrote.
abbrev pub Shakes : ℕ → Bool → List ℕ → List ℕ → List ℕ → Result (Unit {0}) LinkStop → Type 0
Shakes uid ended read rest written (Ok done) = BeginsIn read rest × (written ≡ client_bytes uid)
Shakes uid ended read rest written (Err stop.Failed) = IsFront written (client_bytes uid)
Shakes uid ended read rest written (Err (stop.BadShake fault)) = FailsIn read fault × (written ≡ first_bytes uid)
Shakes uid ended read rest written (Err (stop.BadBytes _ at)) = ⊥
Shakes uid ended read rest written (Err stop.Cut) = (awaited read ≡ Open) × IsTrue ended × (written ≡ first_bytes uid)
Shakes uid ended read rest written (Err stop.NoMemory) = IsFront written (client_bytes uid)

-- A client of that uid shook hands: what was read of the link and written to it, and what stands in the buffer.
pub record ShakesHands (uid : ℕ) (left_before left : Option (List ℕ)) (ended : Bool) (held_before held : Option (List ℕ)) (rest : List ℕ) (result : Result (Unit {0}) LinkStop) : Type 0 where
  pub read : List ℕ
  pub written : List ℕ
  pub gave : Gave left_before left read
  pub got : Got held_before held written
  pub shakes : Shakes uid ended read rest written result
