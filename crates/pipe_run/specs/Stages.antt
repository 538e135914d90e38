-- Where a run stands between two things that are handed in, and where it is stopped at one.
use Rattle.std.specs.Prelude.{◌≡◌, ℕ, ◌≤◌, ◌⊎◌, Bool, IsTrue, true, List, [], ◌∷◌, ◌++◌, Option, Some, None, Result, Ok, Err, length}
use Rattle.std.specs.Option.{option_to_list}
use Rattle.pk_outside.specs.Streams.{Gave, Got}
use Rattle.pk_outside.specs.Trees.{TreeTold}
use Rattle.dbus_values.specs.Next.{Partial, Seen, next_of}
use Rattle.authority_model.specs.declared.journal.Limits.{Limits}
use Rattle.authority_model.specs.Entering.{counted_bytes, is_full}
use Rattle.authority_model.specs.Given.{Given, history_of}
use Rattle.authority_model.specs.Items.{sent}
use Rattle.authority_model.specs.Legal.{Legal}
use Rattle.pipe_run.specs.declared.ends.Stopped.{Stopped}
use Rattle.pipe_run.specs.declared.ends.Stopped.TheVariants as stopped
use Rattle.pipe_run.specs.declared.served.TheConstants.{CONNECTION}
use Rattle.pipe_run.specs.Answered.{Answers, Service}
use Rattle.pipe_run.specs.Bytes.{sent_bytes}
use Rattle.authority_model.specs.declared.load.Loaded.{Loaded}
use Rattle.pipe_run.specs.declared.ends.PipeEnd.{PipeEnd}
use Rattle.pipe_run.specs.Supplies.{Supply, Took}
use Rattle.dbus_values.specs.Streams.{Follow}
use Rattle.pk_outside.specs.Allowing.{IsFront}
use Rattle.pipe_run.specs.Ends.{Pipes, traffic}
use Rattle.pipe_run.specs.Handed.{Opening, Progress, AreHandedIn, IsDue, depart_given, moments_of, words_of}

-- How a run began: what it is made from, the limits of its journal, how often the tree had failed, and what the clock and the salt had given and the output held.
pub record Start : Type 0 where
  pub opening : Opening
  pub limits : Limits
  pub faults : ℕ
  pub clock : Supply
  pub salt : Supply
  pub held : Option (List ℕ)

-- Where it stands: the authority with what it has not written yet, how often the tree has failed, what the clock and the salt gave, and what the output holds.
pub record Standing : Type 0 where
  pub service : Service
  pub faults : ℕ
  pub clock : Supply
  pub salt : Supply
  pub held : Option (List ℕ)

abbrev pub standing : Service → ℕ → Supply → Supply → Option (List ℕ) → Standing
standing service faults clock salt held = record { service = service; faults = faults; clock = clock; salt = salt; held = held }

-- What was sent is what the output got, and what is kept to be written.
pub record IsPosted (before held : Option (List ℕ)) (unsent all : List ℕ) : Type 0 where
  pub written : List ℕ
  pub got : Got before held written
  pub all_is : written ++ unsent ≡ all

-- what was handed in was entered and answered, up to these messages
pub record Stage (s : Start) (now : Standing) (messages : List Seen) : Type 0 where
  pub given : List Given
  pub handed : AreHandedIn s.opening s.limits s.faults given (record { messages = messages; faults = now.faults })
  pub past : now.service.past ≡ history_of given
  pub limits : now.service.limits ≡ s.limits
  pub sent : now.service.sent ≡ sent now.service.past CONNECTION
  pub legal : Legal now.service.past
  pub moments : Took s.clock now.clock (moments_of given)
  pub words : Took s.salt now.salt (words_of given)
  pub posted : IsPosted s.held now.held now.service.unsent (sent_bytes CONNECTION now.service.past)

-- What was entered and what was refused, and how far that came, where a run is stopped.
pub record Halt : Type 0 where
  pub given : List Given
  pub refused : Option Given
  pub progress : Progress
  pub written : List ℕ

-- the journal was full where this was due
pub record IsHaltedFull (s : Start) (h : Halt) (entries bytes : ℕ) : Type 0 where
  pub last : Given
  pub refused : h.refused ≡ Some last
  pub before : Progress
  pub handed : AreHandedIn s.opening s.limits s.faults h.given before
  pub due : IsDue s.opening (history_of h.given) before last h.progress
  pub full : is_full s.limits (history_of h.given) ≡ true
  pub entries_are : entries ≡ length (history_of h.given)
  pub bytes_are : bytes ≡ counted_bytes (history_of h.given)
  pub written : h.written ≡ sent_bytes CONNECTION (history_of h.given)

-- what stopped it, where the tree failed so often
abbrev pub HaltedBy : Start → ℕ → Halt → Stopped → Type 0
HaltedBy s faults h (stopped.Full full) = IsHaltedFull s h full.entries full.bytes × (h.progress.faults ≡ faults)
HaltedBy s faults h stopped.WriteFault =
    AreHandedIn s.opening s.limits s.faults h.given h.progress × (h.refused ≡ None) × IsFront h.written (sent_bytes CONNECTION (history_of h.given)) × (h.progress.faults ≡ faults)
HaltedBy s faults h stopped.NoMemory =
    AreHandedIn s.opening s.limits s.faults h.given h.progress × IsFront h.written (sent_bytes CONNECTION (history_of h.given)) × (h.progress.faults ≤ faults)

-- It was stopped at a message, or before it: these are the messages before and with it.
pub record Halted (s : Start) (now : Standing) (before with_it : List Seen) (why : Stopped) : Type 0 where
  pub halt : Halt
  pub messages : (halt.progress.messages ≡ before) ⊎ (halt.progress.messages ≡ with_it)
  pub legal : Legal (history_of halt.given)
  pub moments : Took s.clock now.clock (moments_of (option_to_list halt.refused ++ halt.given))
  pub words : Took s.salt now.salt (words_of (option_to_list halt.refused ++ halt.given))
  pub written : Got s.held now.held halt.written
  pub by : HaltedBy s now.faults halt why

-- it goes on with the message answered, or was stopped
abbrev pub Turned : Start → Standing → List Seen → List Seen → Result (Unit {0}) Stopped → Type 0
Turned s now before with_it (Ok done) = Stage s now with_it
Turned s now before with_it (Err why) = Halted s now before with_it why

-- what a function makes of a stage, in a tree that tells these files and below this root
abbrev pub Turns : Option TreeTold → List ℕ → Standing → Standing → List Seen → Result (Unit {0}) Stopped → Type 0
Turns told root old new asked result =
    (s : Start) (messages : List Seen) → s.opening.told ≡ told → s.opening.root ≡ root → Stage s old messages → Turned s new messages (messages ++ asked) result

-- the connection's departure was answered, or stopped, with what was taken of the clock and of the salt
pub record IsDeparting (old : Service) (clock salt : Supply) (new : Service) (clock_after salt_after : Supply) (result : Result (Unit {0}) Stopped) : Type 0 where
  pub g : Given
  pub departs : g ≡ depart_given g.moment g.salt
  pub answers : Answers old g new result
  pub moment : Took clock clock_after (g.moment ∷ [])
  pub word : Took salt salt_after (g.salt ∷ [])

-- the first load and the beginning of the connection of this user were answered
abbrev pub Opens : ℕ → Loaded → Standing → Standing → Result (Unit {0}) Stopped → Type 0
Opens uid first old new result = (s : Start) (faults : ℕ) → s.opening.uid ≡ uid → s.opening.first ≡ first → Stage s (record old { faults = faults }) [] → Turned s (record new { faults = faults }) [] [] result

-- What was read so far, and where the run stands.
pub record Running (s : Start) (now : Standing) (left_before left : Option (List ℕ)) (pending : List ℕ) : Type 0 where
  pub read : List ℕ
  pub messages : List Seen
  pub gave : Gave left_before left read
  pub follow : Follow read messages pending
  pub stage : Stage s now messages

-- a run goes on from a stage to its end
abbrev pub Serves : Option TreeTold → List ℕ → Standing → Standing → Option (List ℕ) → Option (List ℕ) → Bool → PipeEnd → Type 0
Serves told root old new left_before left ended result =
    (s : Start) → s.opening.told ≡ told → s.opening.root ≡ root → Stage s old []
    → Pipes s.opening s.limits s.faults new.faults (traffic left_before left ended s.held new.held s.clock new.clock s.salt new.salt) result

-- a run ends with the input, of which so many bytes are left
abbrev pub EndsInput : Standing → Standing → ℕ → PipeEnd → Type 0
EndsInput old new rest result =
    (s : Start) (faults : ℕ) (left_before left : Option (List ℕ)) (pending : List ℕ) (ended : Bool) → Running s (record old { faults = faults }) left_before left pending → next_of pending ≡ Partial → IsTrue ended → rest ≡ length pending
    → Pipes s.opening s.limits s.faults faults (traffic left_before left ended s.held new.held s.clock new.clock s.salt new.salt) result
