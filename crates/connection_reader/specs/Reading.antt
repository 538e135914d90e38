-- What the reading half of a connection has done.
use Rattle.std.specs.Prelude.{◌≡◌, ◌⊎◌, ℕ, ◌<◌, List, [], ◌∷◌, ◌++◌, Option, Some, Bool, IsTrue, length, map}
use Rattle.pk_outside.specs.Causes.{FailsLast, Rose}
use Rattle.pk_outside.specs.Streams.{Gave, Got}
use Rattle.history_lock.specs.Known.{Known}
use Rattle.authority_model.specs.declared.event.Event.TheVariants.{Connect, Depart}
use Rattle.authority_model.specs.declared.journal.Item.{Item}
use Rattle.authority_model.specs.declared.journal.Limits.{Limits}
use Rattle.authority_model.specs.Given.{Given, What}
use Rattle.authority_calls.specs.Events.{event_of}
use Rattle.dbus_values.specs.Next.{Seen, Partial, Bad, next_of}
use Rattle.dbus_values.specs.Streams.{Follow, IsForm, NoneWhole}
use Rattle.shared_authority.specs.Journals.{Fits, past_of}
use Rattle.connection_laws.specs.Doings.{Did}
use Rattle.connection_laws.specs.Knowing.{KnowsMore}
use Rattle.connection_reader.specs.declared.ends.ReaderEnd.{ReaderEnd}
use Rattle.connection_reader.specs.declared.ends.ReaderEnd.TheVariants as reader
use Rattle.connection_lookout.specs.Watching.{Watch, Watched, own}

-- what messages ask
abbrev pub asked : List Seen → List What
asked messages = map (λ m. What.Of (event_of m)) messages

-- what is due for a connection of this user that sent these messages: its beginning, and what each message asks
abbrev pub due : ℕ → List Seen → List What
due uid messages = What.Of (Connect uid) ∷ asked messages

-- What a reader has in hand: its pass, what the source will give, what the clock and the salt gave, the bytes that were read and belong to no message yet, and where its sighter stands, if it has one.
pub record Hand : Type 0 where
  pub pass : Known Item
  pub left : Option (List ℕ)
  pub readings : Option (List ℕ)
  pub words : Option (List ℕ)
  pub unread : List ℕ
  pub watch : Option Watch

abbrev pub hand : Known Item → Option (List ℕ) → Option (List ℕ) → Option (List ℕ) → List ℕ → Option Watch → Hand
hand pass left readings words unread watch = record { pass = pass; left = left; readings = readings; words = words; unread = unread; watch = watch }

-- From the hand s to the hand t the beginning of the connection and what its messages ask was handed in, each once and in order, and then the tail. What was refused is the last of it, and was not entered.
pub record Reading (uid : ℕ) (refused : List Given) (tail : List What) (s t : Hand) : Type 0 where
  -- the pass knows no less
  pub knows : KnowsMore s.pass t.pass
  -- the bytes that were read
  pub read : List ℕ
  pub gave : Gave s.left t.left read
  -- the messages that were taken of what was unread and what was read
  pub messages : List Seen
  pub stream : Follow (s.unread ++ read) messages t.unread
  -- what was entered: these are the connection's items
  pub handed : List Given
  pub did : Did s.pass.number (past_of t.pass.history) handed
  -- what was handed in is what was due
  pub asks : map (λ g. g.what) (handed ++ refused) ≡ due uid messages ++ tail
  -- each took one reading of the clock and one random word
  pub readings : Got s.readings t.readings (map (λ g. g.moment) (handed ++ refused))
  pub words : Got s.words t.words (map (λ g. g.salt) (handed ++ refused))
  -- the sighter looked before what each message asks
  pub watched : Watched (own s.pass.number (length handed) t.pass.history) (map event_of messages) s.watch t.watch

-- The connection goes on.
abbrev pub IsUnderway : ℕ → Hand → Hand → Type 0
IsUnderway uid s t = Reading uid [] [] s t

-- The end of the connection was handed in last, and nothing was refused.
abbrev pub IsThrough : ℕ → Hand → Hand → Type 0
IsThrough uid s t = Reading uid [] (What.Of Depart ∷ []) s t

-- What was handed in last was refused. It may be the end of the connection.
abbrev pub IsRefused : ℕ → Hand → Hand → Type 0
IsRefused uid s t = (g : Given) × (Reading uid (g ∷ []) [] s t ⊎ Reading uid (g ∷ []) (What.Of Depart ∷ []) s t)

-- All messages that were read whole were handed in, and then the end of the connection.
abbrev pub IsWhole : ℕ → Hand → Hand → Type 0
IsWhole uid s t = IsThrough uid s t × NoneWhole t.unread

-- how far a reader came, and why it ended, where the source ended or not
abbrev pub ReadsTo : Limits → ℕ → Hand → Hand → Bool → ReaderEnd → Type 0
ReadsTo limits uid s t ended reader.Done = IsWhole uid s t × (t.unread ≡ []) × IsTrue ended
ReadsTo limits uid s t ended (reader.Truncated rest) = IsWhole uid s t × (next_of t.unread ≡ Partial) × (0 < rest) × (rest ≡ length t.unread) × IsTrue ended
ReadsTo limits uid s t ended (reader.BadBytes kind at) = IsWhole uid s t × (next_of t.unread ≡ Bad kind at)
ReadsTo limits uid s t ended reader.ReadFault = IsWhole uid s t × (next_of t.unread ≡ Partial)
ReadsTo limits uid s t ended reader.SightFault = IsThrough uid s t
ReadsTo limits uid s t ended reader.NoMemory = IsThrough uid s t
ReadsTo limits uid s t ended (reader.Ended cause) = IsRefused uid s t × Fits limits cause t.pass.history t.pass.made × (t.pass.ended ≡ Some cause)

-- A read fault was counted by the last read of the source, and by no read before it. Every other end leaves the count, want of memory too. Ended may stand behind a read fault.
abbrev pub ReadFaults : {S : Type 0} → (S → Option (List ℕ)) → (S → ℕ) → S → S → ReaderEnd → Type 0
ReadFaults left faults before now reader.ReadFault = FailsLast left faults before now
ReadFaults left faults before now (reader.Ended cause) = Unit {0}
ReadFaults left faults before now other = faults now ≡ faults before

-- A sight fault was counted by the last look, and by no look before it. Every other end leaves the count, but Ended may stand behind a sight fault.
abbrev pub SightFaultsTo : ℕ → ℕ → ReaderEnd → Type 0
SightFaultsTo before now reader.SightFault = Rose before now
SightFaultsTo before now (reader.Ended cause) = Unit {0}
SightFaultsTo before now other = now ≡ before
