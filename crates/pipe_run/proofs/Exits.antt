-- The ends of a run.
use Rattle.std.proofs.Common.{◌≡◌, ◌<◌, ◌⊎◌, ℕ, zero, suc, Bool, true, IsTrue, List, [], Option, None, refl, sym, subst, Err, length, arith, inl, inr}
use Rattle.pk_outside.specs.Streams.{Gave, Got}
use Rattle.dbus_values.specs.declared.fault.FaultKind.{FaultKind}
use Rattle.dbus_values.specs.Next.{Seen, Partial, Bad, next_of}
use Rattle.dbus_values.specs.Streams.{Follow, NoneWhole}
use Rattle.authority_model.specs.Given.{history_of}
use Rattle.authority_model.specs.Legal.{Legal}
use Rattle.authority_laws.proofs.Tracing.{access}
use Rattle.pipe_run.specs.declared.ends.PipeEnd.{PipeEnd}
use Rattle.pipe_run.specs.declared.ends.PipeEnd.TheVariants as end
use Rattle.pipe_run.specs.declared.ends.Stopped.{Stopped}
use Rattle.pipe_run.specs.declared.ends.Stopped.TheVariants as stopped
use Rattle.pipe_run.specs.declared.served.TheConstants.{CONNECTION}
use Rattle.pipe_run.specs.Answered.{OnlyWriting}
use Rattle.pipe_run.specs.Bytes.{sent_bytes}
use Rattle.pk_outside.specs.Allowing.{IsFront}
use Rattle.pipe_run.specs.Ends.{IsAnswered, Pipes, Story, Tells, traffic}
use Rattle.pipe_run.specs.Handed.{awaits_message}
use Rattle.pipe_run.specs.Stages.{Halt, Halted, HaltedBy, Running, Stage, Standing, Start}
use Rattle.pipe_run.specs.Stops.{end_of}
use Rattle.dbus_values.proofs.Following.{none_bad, none_partial, to_stream}
use Rattle.pipe_run.proofs.Posting.{posted_all, posted_front}
use Rattle.pipe_run.proofs.Staging.{progress}

-- what was read of the messages that a halt came to
record IsRead (read : List ℕ) (messages : List Seen) : Type 0 where
  rest : List ℕ
  follow : Follow read messages rest

read_to : (read rest behind : List ℕ) (before with_it messages : List Seen) → Follow read before rest → Follow read with_it behind → (messages ≡ before) ⊎ (messages ≡ with_it) → IsRead read messages
read_to read rest behind before with_it messages f g (inl is) = record { rest = rest; follow = subst (λ (ms : List Seen). Follow read ms rest) (sym is) f }
read_to read rest behind before with_it messages f g (inr is) = record { rest = behind; follow = subst (λ (ms : List Seen). Follow read ms behind) (sym is) g }

-- the story of a halt
abbrev story_of : (read rest : List ℕ) → Halt → Story
story_of read rest h = record { read = read; rest = rest; given = h.given; refused = h.refused; progress = h.progress; written = h.written }

tells_of : (s : Start) (faults : ℕ) (ended : Bool) (read rest : List ℕ) (h : Halt) (why : Stopped) → Follow read h.progress.messages rest → HaltedBy s faults h why → Tells s.opening s.limits s.faults faults ended (story_of read rest h) (end_of why)
tells_of s faults ended read rest h (stopped.Full full) f by = (
  record {
    last = by.0.last;
    refused = by.0.refused;
    full = by.0.full;
    entries_are = by.0.entries_are;
    bytes_are = by.0.bytes_are;
    due = inl (record { before = by.0.before; follow = f; handed = by.0.handed; due = by.0.due });
  },
  by.0.written,
  by.1,
)
tells_of s faults ended read rest h stopped.WriteFault f by = (inl (record { follow = f; handed = by.0 }), by.1, by.2, by.3)
tells_of s faults ended read rest h stopped.NoMemory f by = (inl (record { follow = f; handed = by.0 }), by.1, by.2)

-- it was stopped at a message, or before it
pub halted : (s : Start) (now : Standing) (before with_it : List Seen) (why : Stopped) (read rest behind : List ℕ) (left_before left : Option (List ℕ)) (ended : Bool) → Halted s now before with_it why → Follow read before rest
    → Follow read with_it behind → Gave left_before left read → Pipes s.opening s.limits s.faults now.faults (traffic left_before left ended s.held now.held s.clock now.clock s.salt now.salt) (end_of why)
halted s now before with_it why read rest behind left_before left ended h f g gave =
    let r = read_to read rest behind before with_it h.halt.progress.messages f g h.messages in
    record {
      story = story_of read r.rest h.halt;
      gave = gave;
      got = h.written;
      moments = h.moments;
      words = h.words;
      legal = h.legal;
      licensed = access (history_of h.halt.given) h.legal;
      tells = tells_of s now.faults ended read r.rest h.halt why r.follow h.by;
    }

-- what a stage comes to where nothing else is read or handed in
abbrev pub stage_story : (s : Start) (now : Standing) (messages : List Seen) → Stage s now messages → List ℕ → List ℕ → List ℕ → Story
stage_story s now messages st read rest written = record { read = read; rest = rest; given = st.given; refused = None; progress = progress messages now.faults; written = written }

at_stage : (s : Start) (now : Standing) (messages : List Seen) (read rest written : List ℕ) (left_before left : Option (List ℕ)) (ended : Bool) (stop : PipeEnd) (st : Stage s now messages) → Gave left_before left read → Got s.held now.held written
    → Tells s.opening s.limits s.faults now.faults ended (stage_story s now messages st read rest written) stop
    → Pipes s.opening s.limits s.faults now.faults (traffic left_before left ended s.held now.held s.clock now.clock s.salt now.salt) stop
at_stage s now messages read rest written left_before left ended stop st gave got tells =
    let legal : Legal (history_of st.given) = subst Legal st.past st.legal in
    record {
      story = stage_story s now messages st read rest written;
      gave = gave;
      got = got;
      moments = st.moments;
      words = st.words;
      legal = legal;
      licensed = access (history_of st.given) legal;
      tells = tells;
    }

-- all that was sent was written
all_written : (s : Start) (now : Standing) (messages : List Seen) (st : Stage s now messages) → now.service.unsent ≡ [] → Got s.held now.held (sent_bytes CONNECTION (history_of st.given))
all_written s now messages st none = subst (λ past. Got s.held now.held (sent_bytes CONNECTION past)) st.past (posted_all s.held now.held _ _ st.posted none)

-- a prefix of it was written
some_written : (s : Start) (now : Standing) (messages : List Seen) (st : Stage s now messages) → IsFront st.posted.written (sent_bytes CONNECTION (history_of st.given))
some_written s now messages st = subst (λ past. IsFront st.posted.written (sent_bytes CONNECTION past)) st.past (posted_front st.posted)

-- a run that waits for more of a stream
pub answered : (s : Start) (now : Standing) (messages : List Seen) (read rest written : List ℕ) (st : Stage s now messages) → Follow read messages rest → NoneWhole rest → awaits_message now.service.past ≡ true
    → IsAnswered s.opening s.limits s.faults (stage_story s now messages st read rest written) st.given
answered s now messages read rest written st f none waits = record {
  stream = to_stream read messages rest f none;
  handed = st.handed;
  waits = subst (λ past. awaits_message past ≡ true) st.past waits;
}

-- a message has a fault
pub bad_bytes : (s : Start) (now : Standing) (left_before left : Option (List ℕ)) (pending : List ℕ) (ended : Bool) (kind : FaultKind) (at : ℕ) → Running s now left_before left pending → awaits_message now.service.past ≡ true → now.service.unsent ≡ []
    → next_of pending ≡ Bad kind at → Pipes s.opening s.limits s.faults now.faults (traffic left_before left ended s.held now.held s.clock now.clock s.salt now.salt) (end.BadBytes kind at)
bad_bytes s now left_before left pending ended kind at r waits none bad =
    at_stage s now r.messages r.read pending _ left_before left ended (end.BadBytes kind at) r.stage r.gave (all_written s now r.messages r.stage none)
    (answered s now r.messages r.read pending _ r.stage r.follow (none_bad pending kind at bad) waits, bad, refl, refl, refl)

-- the input failed inside a message or before one
pub read_fault : (s : Start) (now : Standing) (left_before left : Option (List ℕ)) (pending : List ℕ) (ended : Bool) → Running s now left_before left pending → awaits_message now.service.past ≡ true → now.service.unsent ≡ [] → next_of pending ≡ Partial
    → Pipes s.opening s.limits s.faults now.faults (traffic left_before left ended s.held now.held s.clock now.clock s.salt now.salt) end.ReadFault
read_fault s now left_before left pending ended r waits none partial =
    at_stage s now r.messages r.read pending _ left_before left ended end.ReadFault r.stage r.gave (all_written s now r.messages r.stage none)
    (answered s now r.messages r.read pending _ r.stage r.follow (none_partial pending partial) waits, refl, refl, refl)

-- the input ended inside a message
pub truncated : (s : Start) (now : Standing) (left_before left : Option (List ℕ)) (pending : List ℕ) (ended : Bool) (rest : ℕ) → Running s now left_before left pending → awaits_message now.service.past ≡ true → now.service.unsent ≡ [] → next_of pending ≡ Partial
    → IsTrue ended → rest ≡ length pending → 0 < rest → Pipes s.opening s.limits s.faults now.faults (traffic left_before left ended s.held now.held s.clock now.clock s.salt now.salt) (end.Truncated rest)
truncated s now left_before left pending ended rest r waits none partial at_end is some =
    at_stage s now r.messages r.read pending _ left_before left ended (end.Truncated rest) r.stage r.gave (all_written s now r.messages r.stage none)
    (answered s now r.messages r.read pending _ r.stage r.follow (none_partial pending partial) waits, partial, at_end, is, some, refl, refl, refl)

-- memory was refused between two messages
pub no_memory : (s : Start) (now : Standing) (messages : List Seen) (read rest : List ℕ) (left_before left : Option (List ℕ)) (ended : Bool) → Stage s now messages → Follow read messages rest → Gave left_before left read
    → Pipes s.opening s.limits s.faults now.faults (traffic left_before left ended s.held now.held s.clock now.clock s.salt now.salt) end.NoMemory
no_memory s now messages read rest left_before left ended st f gave =
    at_stage s now messages read rest st.posted.written left_before left ended end.NoMemory st gave st.posted.got
    (inl (record { follow = f; handed = st.handed }), some_written s now messages st, omega arith)

-- a write failed between two messages
pub write_fault : (s : Start) (now : Standing) (messages : List Seen) (read rest : List ℕ) (left_before left : Option (List ℕ)) (ended : Bool) (why : Stopped) → OnlyWriting {A = Unit {0}} (Err why) → Stage s now messages → Follow read messages rest
    → Gave left_before left read → Pipes s.opening s.limits s.faults now.faults (traffic left_before left ended s.held now.held s.clock now.clock s.salt now.salt) (end_of why)
write_fault s now messages read rest left_before left ended (stopped.Full full) writing st f gave = absurd writing
write_fault s now messages read rest left_before left ended stopped.WriteFault writing st f gave =
    at_stage s now messages read rest st.posted.written left_before left ended end.WriteFault st gave st.posted.got
    (inl (record { follow = f; handed = st.handed }), refl, some_written s now messages st, refl)
write_fault s now messages read rest left_before left ended stopped.NoMemory writing st f gave = absurd writing

-- what is not 0 is above it
pub positive : (n : ℕ) → (n ≡ 0 → ⊥) → 0 < n
positive zero not_zero = absurd (not_zero refl)
positive (suc n) not_zero = omega arith
