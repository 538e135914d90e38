-- What one connection did: to the journal, and to its source and its sink.
use Rattle.std.specs.Prelude.{◌≡◌, ◌≢◌, ℕ, ◌<◌, ◌≤◌, ◌⊎◌, ⊤, Bool, List, [], ◌∷◌, ◌++◌, Option, Some, length, map}
use mathlib.Core.List.{IsPrefix}
use Rattle.authority_laws.specs.Batches.{loads_in}
use Rattle.authority_messages.specs.Texts.{texts}
use Rattle.authority_model.specs.declared.event.Event.TheVariants.{Depart}
use Rattle.authority_model.specs.declared.journal.Item.{Item}
use Rattle.authority_model.specs.declared.journal.Limits.{Limits}
use Rattle.authority_model.specs.Given.{Given, What}
use Rattle.authority_model.specs.Licensed.{AllLicensed}
use Rattle.authority_model.specs.Sent.{sent_to}
use Rattle.connection_laws.specs.Doings.{Did}
use Rattle.connection_laws.specs.Takings.{Finds}
use Rattle.connection_reader.specs.Reading.{due}
use Rattle.connection_serve.specs.declared.ends.End.{End}
use Rattle.connection_serve.specs.declared.ends.End.TheVariants as end
use Rattle.connection_writer.specs.Writing.{collects_of, taken_texts}
use Rattle.dbus_values.specs.Next.{Bad, Partial, Seen, next_of}
use Rattle.dbus_values.specs.Streams.{Follow, NoneWhole}
use Rattle.history_lock.specs.Entries.{NoneBy}
use Rattle.history_lock.specs.Known.{Known}
use Rattle.link_handshake.specs.Replies.{reply_lines}
use Rattle.link_handshake.specs.Shakes.{Begun, Failed, Open, shake}
use Rattle.pk_outside.specs.Allowing.{IsFront}
use Rattle.pk_outside.specs.Causes.{Rose}
use Rattle.pk_outside.specs.Streams.{Gave, Got, IsUsedUp}
use Rattle.shared_authority.specs.Journals.{Fits, IsJournal, caller_of, past_of}

-- Two passes may serve a connection: they have different numbers other than 0, they know one history, and no item of it is by one of them.
pub record IsFresh (pass collector : Known Item) : Type 0 where
  pub apart : pass.number ≢ collector.number
  pub pass_above : 0 < pass.number
  pub collector_above : 0 < collector.number
  pub none_by_pass : NoneBy caller_of pass.number pass.history
  pub none_by_collector : NoneBy caller_of collector.number pass.history
  pub same : pass.history ≡ collector.history

-- # Before the messages

-- the server's answers to all bytes of the handshake
abbrev pub greeting : ℕ → ℕ → List ℕ → List ℕ
greeting uid guid read = reply_lines guid (shake uid read).replies

-- How a connection ended before its messages began, with its cause. The bytes that were read are the handshake's, and what was written are answers to them.
abbrev pub EndsEarly : End → ℕ → ℕ → List ℕ → Option (List ℕ) → List ℕ → ℕ → ℕ → Type 0
EndsEarly end.WriteFault uid guid read left written read_faults write_faults = (0 < write_faults) × IsFront written (greeting uid guid read)
EndsEarly end.ReadFault uid guid read left written read_faults write_faults = (0 < read_faults) × ((shake uid read).standing ≡ Open) × (written ≡ greeting uid guid read)
EndsEarly (end.BadShake fault) uid guid read left written read_faults write_faults = ((shake uid read).standing ≡ Failed fault) × (written ≡ greeting uid guid read)
EndsEarly end.ShakeCut uid guid read left written read_faults write_faults = ((shake uid read).standing ≡ Open) × IsUsedUp left × (written ≡ greeting uid guid read)
EndsEarly end.NoMemory uid guid read left written read_faults write_faults = IsFront written (greeting uid guid read)
EndsEarly (end.Ended cause) uid guid read left written read_faults write_faults = ⊥
EndsEarly (end.BadBytes _ at) uid guid read left written read_faults write_faults = ⊥
EndsEarly (end.Truncated rest) uid guid read left written read_faults write_faults = ⊥
EndsEarly end.Done uid guid read left written read_faults write_faults = ⊥

-- The messages did not begin. The history has no item of the connection, and the clock was not read.
pub record IsEarly (H : List Item) (number uid guid : ℕ) (e : End) (read : List ℕ) (left : Option (List ℕ)) (written readings words : List ℕ) (read_faults write_faults : ℕ) : Type 0 where
  pub none : Did number (past_of H) []
  pub no_reading : readings ≡ []
  pub one_word : words ≡ guid ∷ []
  pub ends : EndsEarly e uid guid read left written read_faults write_faults

-- # With messages

-- The items of the collecting connection are so many Collects of the outputs to the other one. Each found some, but perhaps the last.
pub record IsCollecting (collector number : ℕ) (H : List Item) : Type 0 where
  pub collects : ℕ
  pub did : Did collector (past_of H) (collects_of collector number collects)
  pub gone : Bool
  pub finds : Finds collector number (past_of H) gone

-- the messages of all that was sent to a connection
abbrev pub sent_texts : List Item → ℕ → List ℕ
sent_texts past number = texts (loads_in past) 1 (sent_to past number)

-- How far a connection came: the messages that were handed in and the bytes behind them, what was entered, what was refused, and what came behind the messages.
pub record Story : Type 0 where
  pub messages : List Seen
  pub rest : List ℕ
  pub entered : List Given
  pub refused : List Given
  pub tail : List What

-- The story of a connection of this user: of its bytes it handed in its beginning, then what each message asks, each once and in their order, and then the tail. What was refused is the last of it. Its items in the history are those of what was entered.
pub record Tells (uid number : ℕ) (stream : List ℕ) (H : List Item) (s : Story) : Type 0 where
  pub follow : Follow stream s.messages s.rest
  pub asks : map (λ g. g.what) (s.entered ++ s.refused) ≡ due uid s.messages ++ s.tail
  pub did : Did number (past_of H) s.entered

-- the end of a connection, once it is handed in
abbrev pub departure : List What
departure = What.Of Depart ∷ []

-- All was entered, and the end of the connection is the last of it.
pub record IsWhole (s : Story) : Type 0 where
  pub none_refused : s.refused ≡ []
  pub departed : s.tail ≡ departure

-- One thing was refused, and nothing was handed in behind it.
pub record IsRefused (s : Story) : Type 0 where
  pub given : Given
  pub one_refused : s.refused ≡ given ∷ []
  pub tail_is : (s.tail ≡ []) ⊎ (s.tail ≡ departure)

-- All messages that were read were entered, and all that was sent was written.
pub record IsAnswered (H : List Item) (number : ℕ) (s : Story) (answers : List ℕ) : Type 0 where
  pub whole : IsWhole s
  pub none_left : NoneWhole s.rest
  pub all_written : answers ≡ sent_texts (past_of H) number

-- How a connection ended whose messages had begun, with its cause. The answers are what was written behind the handshake's.
abbrev pub EndsLate : End → List Item → ℕ → Story → List ℕ → Option (List ℕ) → ℕ → ℕ → Type 0
EndsLate (end.Ended cause) H number s answers left read_faults write_faults = IsRefused s ⊎ IsWhole s
EndsLate end.WriteFault H number s answers left read_faults write_faults = (0 < write_faults) × IsWhole s
EndsLate end.ReadFault H number s answers left read_faults write_faults = (0 < read_faults) × (next_of s.rest ≡ Partial) × IsAnswered H number s answers
EndsLate (end.BadBytes kind at) H number s answers left read_faults write_faults = (next_of s.rest ≡ Bad kind at) × IsAnswered H number s answers
EndsLate (end.Truncated rest) H number s answers left read_faults write_faults = (next_of s.rest ≡ Partial) × IsUsedUp left × (rest ≡ length s.rest) × (0 < rest) × IsAnswered H number s answers
EndsLate end.Done H number s answers left read_faults write_faults = (s.rest ≡ []) × IsUsedUp left × IsAnswered H number s answers
EndsLate end.NoMemory H number s answers left read_faults write_faults = IsWhole s
EndsLate (end.BadShake fault) H number s answers left read_faults write_faults = ⊥
EndsLate end.ShakeCut H number s answers left read_faults write_faults = ⊥

-- The messages began. The connection's items in the history are its beginning, what its first messages ask, and its end, as far as its end says; each took a reading of the clock and a random word. What was written are the handshake's answers, and then the first of the messages that the collecting connection took of what was sent to it.
pub record IsLate (H : List Item) (number uid guid : ℕ) (e : End) (read : List ℕ) (left : Option (List ℕ)) (written readings words : List ℕ) (read_faults write_faults : ℕ) : Type 0 where
  -- the bytes behind the handshake
  pub stream : List ℕ
  pub begun : (shake uid read).standing ≡ Begun stream
  pub story : Story
  pub tells : Tells uid number stream H story
  pub moments : readings ≡ map (λ g. g.moment) (story.entered ++ story.refused)
  pub salts : words ≡ guid ∷ map (λ g. g.salt) (story.entered ++ story.refused)
  pub collector : ℕ
  pub collecting : IsCollecting collector number H
  pub answers : List ℕ
  pub written_is : written ≡ greeting uid guid read ++ answers
  pub front : IsFront answers (taken_texts (past_of H) collector number)
  pub ends : EndsLate e H number story answers left read_faults write_faults

-- # Both

-- What a connection did, over lists alone. H is its history, in which its entries have this number. It read some bytes, of which these are left, if that is known, and wrote some. It used these readings of the clock and these random words. The two counts are those of the faults of its source and of its sink at its end.
pub record Connection (H : List Item) (number uid : ℕ) (e : End) (read : List ℕ) (left : Option (List ℕ)) (written readings words : List ℕ) (read_faults write_faults : ℕ) : Type 0 where
  pub numbered : 0 < number
  -- the GUID that the handshake told
  pub guid : ℕ
  pub did : IsEarly H number uid guid e read left written readings words read_faults write_faults ⊎ IsLate H number uid guid e read left written readings words read_faults write_faults

-- A fault of the outside is the end only where the object counted it in this call.
abbrev pub EndFaults : End → ℕ → ℕ → ℕ → ℕ → Type 0
EndFaults end.ReadFault read_before read write_before write = Rose read_before read
EndFaults end.WriteFault read_before read write_before write = Rose write_before write
EndFaults _ read_before read write_before write = ⊤

-- The end of the lock has a cause that fits what the pass knows.
abbrev pub EndFits : Limits → End → Known Item → Type 0
EndFits limits (end.Ended cause) w = Fits limits cause w.history w.made
EndFits limits _ w = ⊤

-- And it is the kept cause.
abbrev pub EndIsKept : End → Known Item → Type 0
EndIsKept (end.Ended cause) w = w.ended ≡ Some cause
EndIsKept _ w = ⊤

-- What a call leaves, as far as the objects tell it. The connection's pass stood for v before the call and stands for w after it.
pub record Serves (limits : Limits) (uid : ℕ) (v w : Known Item) (left_before left held_before held gave_before gave words_before words : Option (List ℕ)) (read_faults_before read_faults write_faults_before write_faults : ℕ) (e : End) : Type 0 where
  pub read : List ℕ
  pub written : List ℕ
  pub readings : List ℕ
  pub drawn : List ℕ
  pub has_read : Gave left_before left read
  pub has_written : Got held_before held written
  pub has_used : Got gave_before gave readings
  pub has_drawn : Got words_before words drawn
  pub number : w.number ≡ v.number
  pub grows : IsPrefix v.history w.history
  pub made : v.made ≤ w.made
  pub legal : IsJournal w.history
  pub licensed : AllLicensed (past_of w.history)
  pub connection : Connection w.history w.number uid e read left written readings drawn read_faults write_faults
  pub faults : EndFaults e read_faults_before read_faults write_faults_before write_faults
  pub ended : EndFits limits e w
  pub kept : EndIsKept e w

-- What was written and what is collected, by the collecting pass itself, whose number this is.
pub record IsCollected (collector number : ℕ) (H : List Item) (held_before held : Option (List ℕ)) : Type 0 where
  pub collecting : IsCollecting collector number H
  pub replies : List ℕ
  pub answers : List ℕ
  pub has_written : Got held_before held (replies ++ answers)
  pub front : IsFront answers (taken_texts (past_of H) collector number)
