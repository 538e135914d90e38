-- What the authority of a connection does with one thing that is handed in.
use Rattle.std.specs.Prelude.{◌≡◌, ℕ, ◌≤◌, ◌^◌, ◌⊎◌, true, false, List, [], ◌∷◌, ◌++◌, Option, Result, Ok, Err, length}
use Rattle.pk_outside.specs.Causes.{FailsLast}
use Rattle.pk_outside.specs.Streams.{GotUpTo}
use Rattle.authority_model.specs.declared.journal.Item.{Item}
use Rattle.authority_model.specs.declared.journal.Limits.{Limits}
use Rattle.authority_model.specs.Entering.{counted_bytes, is_full}
use Rattle.authority_model.specs.Given.{Given, IsStepped, event_given, load_given, next}
use Rattle.authority_model.specs.Items.{sent}
use Rattle.pipe_run.specs.declared.ends.Stopped.{Stopped}
use Rattle.pipe_run.specs.declared.ends.Stopped.TheVariants as stopped
use Rattle.pipe_run.specs.declared.served.Submission.{Submission}
use Rattle.pipe_run.specs.declared.served.Submission.TheVariants as submission
use Rattle.pipe_run.specs.declared.served.TheConstants.{CONNECTION, LOADER}
use Rattle.pipe_run.specs.Bytes.{newest_bytes}

-- The authority of a connection: the limits of its journal, its items, how many messages the connection was sent, and the bytes of these that were not written yet.
pub record Service : Type 0 where
  pub limits : Limits
  pub past : List Item
  pub sent : ℕ
  pub unsent : List ℕ

-- an authority that was handed in nothing
abbrev pub fresh : Limits → Service
fresh limits = record { limits = limits; past = []; sent = 0; unsent = [] }

-- what is handed in
abbrev pub given_of : Submission → Given
given_of (submission.Event caller moment salt event) = event_given caller moment salt event
given_of (submission.Load moment loaded) = load_given LOADER moment loaded

-- it may be handed in
abbrev pub IsSubmittable : Submission → Type 0
IsSubmittable (submission.Event caller moment salt event) = (moment ≤ 2 ^ 62) × IsStepped event
IsSubmittable (submission.Load moment loaded) = moment ≤ 2 ^ 62

-- there was room, and it is the newest entry
pub record IsAdded (old : Service) (g : Given) (new : Service) : Type 0 where
  pub room : is_full old.limits old.past ≡ false
  pub past : new.past ≡ next old.past g ∷ old.past
  pub limits : new.limits ≡ old.limits

-- there was no room, and this is how full the journal is
pub record IsFilled (old new : Service) (entries bytes : ℕ) : Type 0 where
  pub same : new ≡ old
  pub full : is_full old.limits old.past ≡ true
  pub entries_are : entries ≡ length old.past
  pub bytes_are : bytes ≡ counted_bytes old.past

-- it was entered, or refused
abbrev pub Submits : Service → Given → Service → Result (Unit {0}) Stopped → Type 0
Submits old g new (Ok done) = IsAdded old g new × (new.sent ≡ old.sent) × (new.unsent ≡ old.unsent)
Submits old g new (Err (stopped.Full full)) = IsFilled old new full.entries full.bytes
Submits old g new (Err stopped.WriteFault) = ⊥
Submits old g new (Err stopped.NoMemory) = new ≡ old

-- What is handed in next is refused at most where all that was sent was written.
abbrev pub IsReady : Service → Type 0
IsReady service = is_full service.limits service.past ≡ true → service.unsent ≡ []

-- it was entered, and what it sends to the connection is kept to be written; or this stopped it
abbrev pub Answers : Service → Given → Service → Result (Unit {0}) Stopped → Type 0
Answers old g new (Ok done) = IsAdded old g new × (new.sent ≡ sent new.past CONNECTION) × (new.unsent ≡ old.unsent ++ newest_bytes CONNECTION new.past)
Answers old g new (Err (stopped.Full full)) = IsFilled old new full.entries full.bytes
Answers old g new (Err stopped.WriteFault) = ⊥
Answers old g new (Err stopped.NoMemory) = (new ≡ old) ⊎ IsAdded old g new

-- The first of what was kept was written, and nothing else changed.
pub record IsWrittenOut (old : Service) (held : Option (List ℕ)) (new : Service) (held_after : Option (List ℕ)) : Type 0 where
  pub limits : new.limits ≡ old.limits
  pub past : new.past ≡ old.past
  pub sent : new.sent ≡ old.sent
  pub out : GotUpTo held held_after old.unsent new.unsent

-- nothing but want of memory stops it
abbrev pub OnlyMemory : {A : Type 0} → Result A Stopped → Type 0
OnlyMemory (Ok done) = Unit {0}
OnlyMemory (Err (stopped.Full full)) = ⊥
OnlyMemory (Err stopped.WriteFault) = ⊥
OnlyMemory (Err stopped.NoMemory) = Unit {0}

-- nothing but a write fault stops it
abbrev pub OnlyWriting : {A : Type 0} → Result A Stopped → Type 0
OnlyWriting (Ok done) = Unit {0}
OnlyWriting (Err (stopped.Full full)) = ⊥
OnlyWriting (Err stopped.WriteFault) = Unit {0}
OnlyWriting (Err stopped.NoMemory) = ⊥

-- a write fault was counted by the last write, and by no write before it; all else leaves the count
abbrev pub FaultIn : {S : Type 0} → (S → Option (List ℕ)) → (S → ℕ) → S → S → Stopped → Type 0
FaultIn held faults before now stopped.WriteFault = FailsLast held faults before now
FaultIn held faults before now other = faults now ≡ faults before

-- the same of an answer
abbrev pub WriteFaults : {S A : Type 0} → (S → Option (List ℕ)) → (S → ℕ) → S → S → Result A Stopped → Type 0
WriteFaults held faults before now (Ok done) = faults now ≡ faults before
WriteFaults held faults before now (Err why) = FaultIn held faults before now why
