-- Waiting for a message that tells something.
use Rattle.std.specs.Prelude.{◌≡◌, ℕ, Bool, true, false, IsTrue, List, [], ◌∷◌, ◌++◌, Option, Some, None, Result, Ok, Err}
use Rattle.pk_outside.specs.Streams.{Gave, Got}
use Rattle.dbus_values.specs.Next.{Seen, Partial, Bad, next_of}
use Rattle.authority_model.specs.Words.{Bytes}
use Rattle.client_messages.specs.declared.answer.ClientAnswer.{ClientAnswer}
use Rattle.client_messages.specs.declared.answer.ClientAnswer.TheVariants as answer
use Rattle.client_messages.specs.Answers.{answer_of}
use Rattle.client_link.specs.declared.stop.LinkStop.{LinkStop}
use Rattle.client_link.specs.declared.stop.LinkStop.TheVariants as stop
use Rattle.client_link.specs.Faults.{faults_after}
use Rattle.dbus_values.specs.Streams.{Follow}
use Rattle.pk_outside.specs.Allowing.{IsFront}
use Rattle.script_agent.specs.Lines.{LineNow}

-- the first message that tells something, with those behind it
abbrev pub first_after : {A : Type 0} → Option A → List Seen → Option (A × List Seen) → Option (A × List Seen)
first_after (Some told) messages later = Some (told, messages)
first_after None messages later = later

abbrev pub first_of : {A : Type 0} → (Seen → Option A) → List Seen → Option (A × List Seen)
first_of tells [] = None
first_of tells (m ∷ messages) = first_after (tells m) messages (first_of tells messages)

-- whether an answer settles a call: it is an error, or the call was done
abbrev pub refusal_in : ClientAnswer → Option Bool
refusal_in answer.Done = Some false
refusal_in (answer.ErrorNamed name) = Some true
refusal_in _ = None

-- whether the reply to the call with this serial is an error
abbrev pub refusal_of : ℕ → Seen → Option Bool
refusal_of serial m = refusal_in (answer_of serial m)

-- Messages were taken up to the first that tells something, or none of those taken does and the
-- bytes behind them show why.
abbrev pub Finds : {A : Type 0} → (Seen → Option A) → Bool → List Seen → Bytes → Bytes → Result A LinkStop → Type 0
Finds tells ended messages rest now (Ok told) = (first_of tells messages ≡ Some (told, [])) × (now ≡ rest)
Finds tells ended messages rest now (Err stop.Failed) = first_of tells messages ≡ None
Finds tells ended messages rest now (Err (stop.BadShake fault)) = ⊥
Finds tells ended messages rest now (Err (stop.BadBytes kind at)) = (first_of tells messages ≡ None) × (next_of rest ≡ Bad kind at)
Finds tells ended messages rest now (Err stop.Cut) = (first_of tells messages ≡ None) × (next_of rest ≡ Partial) × IsTrue ended
Finds tells ended messages rest now (Err stop.NoMemory) = first_of tells messages ≡ None

-- What was read of a link, the messages that were taken, and the bytes behind them.
pub record Hears {A : Type 0} (tells : Seen → Option A) (left_before left : Option Bytes) (ended : Bool) (rest_before rest_now : Bytes) (result : Result A LinkStop) : Type 0 where
  pub read : Bytes
  pub messages : List Seen
  pub rest : Bytes
  pub gave : Gave left_before left read
  pub follow : Follow (rest_before ++ read) messages rest
  pub finds : Finds tells ended messages rest rest_now result

-- A connection was waited on; nothing was written to it.
pub record Waits {A : Type 0} (tells : Seen → Option A) (before now : LineNow) (result : Result A LinkStop) : Type 0 where
  pub hears : Hears tells before.left now.left now.ended before.rest now.rest result
  pub origin : now.origin ≡ before.origin
  pub held : now.held ≡ before.held
  pub sent : now.sent ≡ before.sent
  pub reads : now.read_faults ≡ faults_after before.read_faults result
  pub writes : now.write_faults ≡ before.write_faults

-- the bytes that are due were written, or a prefix of them
abbrev pub IsWritten : Bytes → Bytes → Result (Unit {0}) LinkStop → Type 0
IsWritten due written (Ok done) = written ≡ due
IsWritten due written (Err stop.Failed) = IsFront written due
IsWritten due written (Err stop.NoMemory) = IsFront written due
IsWritten due written (Err other) = ⊥

-- A message was sent on a connection; nothing was read of it.
pub record Sends (due : Bytes) (before now : LineNow) (result : Result (Unit {0}) LinkStop) : Type 0 where
  pub written : Bytes
  pub got : Got before.held now.held written
  pub is_written : IsWritten due written result
  pub origin : now.origin ≡ before.origin
  pub left : now.left ≡ before.left
  pub rest : now.rest ≡ before.rest
  pub ended : now.ended ≡ before.ended
  pub reads : now.read_faults ≡ before.read_faults
  pub writes : now.write_faults ≡ faults_after before.write_faults result
