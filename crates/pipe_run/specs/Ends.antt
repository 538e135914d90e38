-- How a run ends, by what was read, handed in and written.
use Rattle.std.specs.Prelude.{◌≡◌, ℕ, ◌<◌, ◌≤◌, ◌⊎◌, Bool, true, false, IsTrue, List, [], ◌∷◌, ◌++◌, Option, Some, None, length}
use Rattle.std.specs.Option.{option_to_list}
use Rattle.pk_outside.specs.Allowing.{IsFront}
use Rattle.pk_outside.specs.Streams.{Gave, Got}
use Rattle.dbus_values.specs.Next.{Seen, Partial, Bad, next_of}
use Rattle.dbus_values.specs.Streams.{Follow, IsForm, Stream}
use Rattle.authority_model.specs.declared.journal.Item.{Item}
use Rattle.authority_model.specs.declared.journal.Limits.{Limits}
use Rattle.authority_model.specs.Entering.{counted_bytes, is_full}
use Rattle.authority_model.specs.Given.{Given, history_of}
use Rattle.authority_model.specs.Legal.{Legal}
use Rattle.authority_model.specs.Licensed.{AllLicensed}
use Rattle.pipe_run.specs.declared.ends.PipeEnd.{PipeEnd}
use Rattle.pipe_run.specs.declared.ends.PipeEnd.TheVariants as end
use Rattle.pipe_run.specs.declared.served.TheConstants.{CONNECTION}
use Rattle.pipe_run.specs.Bytes.{sent_bytes}
use Rattle.pipe_run.specs.Supplies.{Supply, Took}
use Rattle.pipe_run.specs.Handed.{Opening, Progress, AreHandedIn, IsDue, awaits_message, depart_given, moments_of, words_of}

-- What was read, what was handed in for it, and how far that came.
pub record Story : Type 0 where
  -- the bytes that were read
  pub read : List ℕ
  -- those of them that no message was found in
  pub rest : List ℕ
  -- what was entered, the newest first
  pub given : List Given
  -- what was handed in last and refused
  pub refused : Option Given
  pub progress : Progress
  -- the bytes that were written
  pub written : List ℕ

-- the history that a story made
abbrev pub history : Story → List Item
history s = history_of s.given

-- all that was sent was written
abbrev pub IsAllWritten : Story → Type 0
IsAllWritten s = s.written ≡ sent_bytes CONNECTION (history s)

-- The bytes are a stream of messages, and these were answered: what each asks was handed in when it was due, and nothing else is due.
pub record IsAnswered (o : Opening) (limits : Limits) (start : ℕ) (s : Story) (given : List Given) : Type 0 where
  pub stream : Stream s.read s.progress.messages s.rest
  pub handed : AreHandedIn o limits start given s.progress
  pub waits : awaits_message (history_of given) ≡ true

-- the bytes ended behind a message, and were answered; the end of the connection is due, and is this
pub record IsAtEnd (o : Opening) (limits : Limits) (start : ℕ) (ended : Bool) (s : Story) (given : List Given) (g : Given) : Type 0 where
  pub answered : IsAnswered o limits start s given
  pub all : IsTrue ended
  pub nothing : s.rest ≡ []
  pub departs : g ≡ depart_given g.moment g.salt

-- the connection departed behind the last message
pub record IsDeparted (o : Opening) (limits : Limits) (start : ℕ) (ended : Bool) (s : Story) : Type 0 where
  pub departure : Given
  pub before : List Given
  pub given_is : s.given ≡ departure ∷ before
  pub room : is_full limits (history_of before) ≡ false
  pub at_end : IsAtEnd o limits start ended s before departure

-- The first messages of the bytes were answered, each when it was due.
pub record IsBegun (o : Opening) (limits : Limits) (start : ℕ) (s : Story) : Type 0 where
  pub follow : Follow s.read s.progress.messages s.rest
  pub handed : AreHandedIn o limits start s.given s.progress

-- the messages, or the first of them, were answered
abbrev pub IsUnderWay : Opening → Limits → ℕ → Bool → Story → Type 0
IsUnderWay o limits start ended s = IsBegun o limits start s ⊎ IsDeparted o limits start ended s

-- one more thing was due, and the messages before it were answered: what the history asks for, or the end of the connection
pub record IsOneDue (o : Opening) (limits : Limits) (start : ℕ) (s : Story) (g : Given) : Type 0 where
  pub before : Progress
  pub follow : Follow s.read s.progress.messages s.rest
  pub handed : AreHandedIn o limits start s.given before
  pub due : IsDue o (history s) before g s.progress

-- the journal was full where this was due, and had so many entries and counted bytes
pub record IsFull (o : Opening) (limits : Limits) (start : ℕ) (ended : Bool) (s : Story) (entries bytes : ℕ) : Type 0 where
  pub last : Given
  pub refused : s.refused ≡ Some last
  pub full : is_full limits (history s) ≡ true
  pub entries_are : entries ≡ length (history s)
  pub bytes_are : bytes ≡ counted_bytes (history s)
  pub due : IsOneDue o limits start s last ⊎ IsAtEnd o limits start ended s s.given last

-- what a story says at each end of a run; the tree counted so many faults in all
abbrev pub Tells : Opening → Limits → ℕ → ℕ → Bool → Story → PipeEnd → Type 0
Tells o limits start faults ended s end.Done =
    IsDeparted o limits start ended s × (s.refused ≡ None) × IsAllWritten s × (s.progress.faults ≡ faults)
Tells o limits start faults ended s end.ReadFault =
    IsAnswered o limits start s s.given × (s.refused ≡ None) × IsAllWritten s × (s.progress.faults ≡ faults)
Tells o limits start faults ended s (end.BadBytes kind at) =
    IsAnswered o limits start s s.given × (next_of s.rest ≡ Bad kind at) × (s.refused ≡ None) × IsAllWritten s × (s.progress.faults ≡ faults)
Tells o limits start faults ended s (end.Truncated rest) =
    IsAnswered o limits start s s.given × (next_of s.rest ≡ Partial) × IsTrue ended × (rest ≡ length s.rest) × (0 < rest) × (s.refused ≡ None) × IsAllWritten s × (s.progress.faults ≡ faults)
Tells o limits start faults ended s (end.Full full) =
    IsFull o limits start ended s full.entries full.bytes × IsAllWritten s × (s.progress.faults ≡ faults)
Tells o limits start faults ended s end.WriteFault =
    IsUnderWay o limits start ended s × (s.refused ≡ None) × IsFront s.written (sent_bytes CONNECTION (history s)) × (s.progress.faults ≡ faults)
Tells o limits start faults ended s end.NoMemory =
    IsUnderWay o limits start ended s × IsFront s.written (sent_bytes CONNECTION (history s)) × (s.progress.faults ≤ faults)

-- What the objects of the outside tell, before a run and after it: the bytes that the input has left, and whether it ended; the bytes that the output got; and what the clock and the salt give and gave.
pub record Traffic : Type 0 where
  pub left_before : Option (List ℕ)
  pub left : Option (List ℕ)
  pub ended : Bool
  pub held_before : Option (List ℕ)
  pub held : Option (List ℕ)
  pub clock_before : Supply
  pub clock : Supply
  pub salt_before : Supply
  pub salt : Supply

abbrev pub traffic : Option (List ℕ) → Option (List ℕ) → Bool → Option (List ℕ) → Option (List ℕ) → Supply → Supply → Supply → Supply → Traffic
traffic left_before left ended held_before held clock_before clock salt_before salt = record {
  left_before = left_before;
  left = left;
  ended = ended;
  held_before = held_before;
  held = held;
  clock_before = clock_before;
  clock = clock;
  salt_before = salt_before;
  salt = salt;
}

-- The run of a connection: some bytes were read and some written, a reading of the clock was taken for all that was handed in and a random word for the connection's own, and the history that it made is legal, with each yes licensed.
pub record Pipes (o : Opening) (limits : Limits) (start faults : ℕ) (t : Traffic) (stop : PipeEnd) : Type 0 where
  pub story : Story
  pub gave : Gave t.left_before t.left story.read
  pub got : Got t.held_before t.held story.written
  pub moments : Took t.clock_before t.clock (moments_of (option_to_list story.refused ++ story.given))
  pub words : Took t.salt_before t.salt (words_of (option_to_list story.refused ++ story.given))
  pub legal : Legal (history story)
  pub licensed : AllLicensed (history story)
  pub tells : Tells o limits start faults t.ended story stop
