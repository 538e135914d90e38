-- The end of the connection is handed in at the end of the input.
use Rattle.std.proofs.Common.{◌≡◌, ◌==◌, ℕ, Bool, true, false, IsTrue, List, [], ◌∷◌, ◌++◌, Option, Some, None, Result, Ok, Err, refl, ap, sym, ◌∙◌, subst, length, arith, append-nil, inl, inr}
use Rattle.pk_outside.specs.Streams.{Got, GotUpTo}
use Rattle.dbus_values.specs.Next.{Partial, next_of}
use Rattle.authority_model.specs.declared.journal.Item.{Item}
use Rattle.authority_model.specs.Entering.{counted_bytes}
use Rattle.authority_model.specs.Given.{Given, history_of, next}
use Rattle.authority_model.specs.Legal.{Legal}
use Rattle.authority_laws.proofs.Tracing.{access}
use Rattle.pipe_run.specs.declared.ends.PipeEnd.{PipeEnd}
use Rattle.pipe_run.specs.declared.ends.PipeEnd.TheVariants as end
use Rattle.pipe_run.specs.declared.ends.Stopped.{Stopped}
use Rattle.pipe_run.specs.declared.ends.Stopped.TheVariants as stopped
use Rattle.pipe_run.specs.declared.served.TheConstants.{CONNECTION}
use Rattle.pipe_run.specs.Answered.{Answers, IsAdded, OnlyWriting, Service}
use Rattle.pipe_run.specs.Bytes.{newest_bytes, sent_bytes}
use Rattle.pk_outside.specs.Allowing.{IsFront}
use Rattle.pipe_run.specs.Ends.{IsAtEnd, IsDeparted, Pipes, Story, Tells, traffic}
use Rattle.pipe_run.specs.Handed.{awaits_message, depart_given, moments_of, words_of}
use Rattle.pipe_run.specs.Stages.{IsDeparting, IsPosted, Running, Standing, Start}
use Rattle.pipe_run.specs.Stops.{end_of}
use Rattle.pipe_run.specs.Supplies.{Supply, Took}
use Rattle.dbus_values.proofs.Following.{none_partial, to_stream}
use Rattle.pipe_run.proofs.Posting.{posted_all, posted_before, posted_front, posted_more, posted_out}
use Rattle.pipe_run.proofs.Staging.{progress, room_at, sent_more}
use Rattle.pipe_run.proofs.Supplying.{took_more}
use Rattle.pipe_run.proofs.Takings.{one_moment, one_word, word_for}

no_bytes : (xs : List ℕ) → length xs ≡ 0 → xs ≡ []
no_bytes [] e = refl
no_bytes (x ∷ xs) e = absurd (omega (arith, e))

-- A stage at the end of the input, where all was written, and the departure with what it takes.
record IsLeaving (s : Start) (now : Standing) (clock salt : Supply) (left_before left : Option (List ℕ)) (ended : Bool) (g : Given) : Type 0 where
  running : Running s now left_before left []
  partial : next_of [] ≡ Partial
  waits : awaits_message now.service.past ≡ true
  all : IsTrue ended
  departs : g ≡ depart_given g.moment g.salt
  moment : Took now.clock clock (g.moment ∷ [])
  word : Took now.salt salt (g.salt ∷ [])

-- the story of what was entered and refused
abbrev story : {s : Start} {now : Standing} {clock salt : Supply} {l0 l : Option (List ℕ)} {ended : Bool} {g : Given} → IsLeaving s now clock salt l0 l ended g → List Given → Option Given → List ℕ → Story
story {now = now} l given refused written = record { read = l.running.read; rest = []; given = given; refused = refused; progress = progress l.running.messages now.faults; written = written }

at_end : {s : Start} {now : Standing} {clock salt : Supply} {l0 l : Option (List ℕ)} {ended : Bool} {g : Given} (lv : IsLeaving s now clock salt l0 l ended g) (given : List Given) (refused : Option Given) (written : List ℕ)
    → IsAtEnd s.opening s.limits s.faults ended (story lv given refused written) lv.running.stage.given g
at_end {s = s} {now = now} {g = g} lv given refused written = record {
  answered = record {
    stream = to_stream lv.running.read lv.running.messages [] lv.running.follow (none_partial [] lv.partial);
    handed = lv.running.stage.handed;
    waits = subst (λ past. awaits_message past ≡ true) lv.running.stage.past lv.waits;
  };
  all = lv.all;
  nothing = refl;
  departs = lv.departs;
}

words_more : {s : Start} {now : Standing} {clock salt : Supply} {l0 l : Option (List ℕ)} {ended : Bool} {g : Given} (lv : IsLeaving s now clock salt l0 l ended g) → Took s.salt salt (words_of (g ∷ lv.running.stage.given))
words_more {s = s} {now = now} {salt = salt} {g = g} lv =
    let own : (g.caller == CONNECTION) ≡ true = ap (λ (x : Given). x.caller == CONNECTION) lv.departs in
    subst (Took s.salt salt) (ap (λ b. words_of lv.running.stage.given ++ word_for b g) (sym own) ∙ sym (one_word g lv.running.stage.given))
    (took_more s.salt now.salt salt (words_of lv.running.stage.given) (g.salt ∷ []) lv.running.stage.words lv.word)

moments_more : {s : Start} {now : Standing} {clock salt : Supply} {l0 l : Option (List ℕ)} {ended : Bool} {g : Given} (lv : IsLeaving s now clock salt l0 l ended g) → Took s.clock clock (moments_of (g ∷ lv.running.stage.given))
moments_more {s = s} {now = now} {clock = clock} {g = g} lv =
    subst (Took s.clock clock) (sym (one_moment g lv.running.stage.given)) (took_more s.clock now.clock clock (moments_of lv.running.stage.given) (g.moment ∷ []) lv.running.stage.moments lv.moment)

-- the history with the departure
with_departure : {s : Start} {now : Standing} {clock salt : Supply} {l0 l : Option (List ℕ)} {ended : Bool} {g : Given} (lv : IsLeaving s now clock salt l0 l ended g) (new : Service) → IsAdded now.service g new → new.past ≡ history_of (g ∷ lv.running.stage.given)
with_departure {g = g} lv new added = added.past ∙ ap (λ (p : List Item). next p g ∷ p) lv.running.stage.past

departed : {s : Start} {now : Standing} {clock salt : Supply} {l0 l : Option (List ℕ)} {ended : Bool} {g : Given} (lv : IsLeaving s now clock salt l0 l ended g) (new : Service) (written : List ℕ) → IsAdded now.service g new
    → IsDeparted s.opening s.limits s.faults ended (story lv (g ∷ lv.running.stage.given) None written)
departed {s = s} {g = g} lv new written added = record {
  departure = g;
  before = lv.running.stage.given;
  given_is = refl;
  room = room_at _ _ _ _ false lv.running.stage.limits lv.running.stage.past added.room;
  at_end = at_end lv (g ∷ lv.running.stage.given) None written;
}

-- it was entered
entered : {s : Start} {now : Standing} {clock salt : Supply} {l0 l : Option (List ℕ)} {ended : Bool} {g : Given} (lv : IsLeaving s now clock salt l0 l ended g) (new : Service) (held : Option (List ℕ)) (stop : PipeEnd) (written : List ℕ) → IsAdded now.service g new
    → Legal new.past → Got s.held held written → Tells s.opening s.limits s.faults now.faults ended (story lv (g ∷ lv.running.stage.given) None written) stop
    → Pipes s.opening s.limits s.faults now.faults (traffic l0 l ended s.held held s.clock clock s.salt salt) stop
entered {s = s} {g = g} lv new held stop written added legal got tells =
    let is : Legal (history_of (g ∷ lv.running.stage.given)) = subst Legal (with_departure lv new added) legal in
    record {
      story = story lv (g ∷ lv.running.stage.given) None written;
      gave = lv.running.gave;
      got = got;
      moments = moments_more lv;
      words = words_more lv;
      legal = is;
      licensed = access (history_of (g ∷ lv.running.stage.given)) is;
      tells = tells;
    }

-- it was refused, and all was written before
not_entered : {s : Start} {now : Standing} {clock salt : Supply} {l0 l : Option (List ℕ)} {ended : Bool} {g : Given} (lv : IsLeaving s now clock salt l0 l ended g) (stop : PipeEnd) → now.service.unsent ≡ []
    → Tells s.opening s.limits s.faults now.faults ended (story lv lv.running.stage.given (Some g) (sent_bytes CONNECTION (history_of lv.running.stage.given))) stop
    → Pipes s.opening s.limits s.faults now.faults (traffic l0 l ended s.held now.held s.clock clock s.salt salt) stop
not_entered {s = s} {now = now} {g = g} lv stop none tells =
    let st = lv.running.stage in
    let is : Legal (history_of st.given) = subst Legal st.past st.legal in
    record {
      story = story lv st.given (Some g) (sent_bytes CONNECTION (history_of st.given));
      gave = lv.running.gave;
      got = subst (λ (p : List Item). Got s.held now.held (sent_bytes CONNECTION p)) st.past (posted_all s.held now.held _ _ st.posted none);
      moments = moments_more lv;
      words = words_more lv;
      legal = is;
      licensed = access (history_of st.given) is;
      tells = tells;
    }

-- what was posted with it
posted_with : {s : Start} {now : Standing} {clock salt : Supply} {l0 l : Option (List ℕ)} {ended : Bool} {g : Given} (lv : IsLeaving s now clock salt l0 l ended g) (new : Service) → Answers now.service g new (Ok tt)
    → IsPosted s.held now.held new.unsent (sent_bytes CONNECTION (history_of (g ∷ lv.running.stage.given)))
posted_with {s = s} {now = now} {g = g} lv new a =
    subst (λ (p : List Item). IsPosted s.held now.held new.unsent (sent_bytes CONNECTION p)) (with_departure lv new a.0)
    (posted_more s.held now.held _ _ _ _ _ lv.running.stage.posted a.2 (sent_more new.past now.service.past _ a.0.past))

-- what was written is a prefix of what was sent with it
front_with : {s : Start} {now : Standing} {clock salt : Supply} {l0 l : Option (List ℕ)} {ended : Bool} {g : Given} (lv : IsLeaving s now clock salt l0 l ended g) (new : Service) → IsAdded now.service g new
    → IsFront lv.running.stage.posted.written (sent_bytes CONNECTION (history_of (g ∷ lv.running.stage.given)))
front_with {now = now} lv new added =
    subst (λ (p : List Item). IsFront lv.running.stage.posted.written (sent_bytes CONNECTION p)) (with_departure lv new added)
    (posted_before (sent_bytes CONNECTION new.past) (newest_bytes CONNECTION new.past) lv.running.stage.posted (sent_more new.past now.service.past _ added.past))

-- it stopped the run
stopped_leaving : {s : Start} {now : Standing} {clock salt : Supply} {l0 l : Option (List ℕ)} {ended : Bool} {g : Given} (lv : IsLeaving s now clock salt l0 l ended g) (new : Service) (why : Stopped) → now.service.unsent ≡ [] → Legal new.past
    → Answers now.service g new (Err why) → Pipes s.opening s.limits s.faults now.faults (traffic l0 l ended s.held now.held s.clock clock s.salt salt) (end_of why)
stopped_leaving {s = s} {g = g} lv new (stopped.Full full) none legal a =
    let st = lv.running.stage in
    not_entered lv (end.Full full) none (
      record {
        last = g;
        refused = refl;
        full = room_at _ _ _ _ true st.limits st.past a.full;
        entries_are = a.entries_are ∙ ap length st.past;
        bytes_are = a.bytes_are ∙ ap counted_bytes st.past;
        due = inr (at_end lv st.given (Some g) (sent_bytes CONNECTION (history_of st.given)));
      },
      refl,
      refl,
    )
stopped_leaving lv new stopped.WriteFault none legal a = absurd a
stopped_leaving lv new stopped.NoMemory none legal (inl a) =
    let st = lv.running.stage in
    not_entered lv end.NoMemory none (inl (record { follow = lv.running.follow; handed = st.handed }), ([], sym (append-nil (sent_bytes CONNECTION (history_of st.given)))), omega arith)
stopped_leaving {now = now} lv new stopped.NoMemory none legal (inr a) =
    entered lv new now.held end.NoMemory lv.running.stage.posted.written a legal lv.running.stage.posted.got
    (inr (departed lv new lv.running.stage.posted.written a), front_with lv new a, omega arith)

-- it was answered, and all was written
left : {s : Start} {now : Standing} {clock salt : Supply} {l0 l : Option (List ℕ)} {ended : Bool} {g : Given} (lv : IsLeaving s now clock salt l0 l ended g) (new : Service) (held : Option (List ℕ)) (unsent : List ℕ) → Legal new.past
    → Answers now.service g new (Ok tt) → GotUpTo now.held held new.unsent unsent → unsent ≡ [] → Pipes s.opening s.limits s.faults now.faults (traffic l0 l ended s.held held s.clock clock s.salt salt) end.Done
left {s = s} {now = now} {g = g} lv new held unsent legal a out none =
    entered lv new held end.Done (sent_bytes CONNECTION (history_of (g ∷ lv.running.stage.given))) a.0 legal
    (posted_all s.held held unsent _ (posted_out s.held now.held held new.unsent unsent _ (posted_with lv new a) out) none)
    (departed lv new (sent_bytes CONNECTION (history_of (g ∷ lv.running.stage.given))) a.0, refl, refl, refl)

-- it was answered, and the write behind it failed
unwritten_leaving : {s : Start} {now : Standing} {clock salt : Supply} {l0 l : Option (List ℕ)} {ended : Bool} {g : Given} (lv : IsLeaving s now clock salt l0 l ended g) (new : Service) (held : Option (List ℕ)) (unsent : List ℕ) (why : Stopped)
    → OnlyWriting {A = Unit {0}} (Err why) → Legal new.past → Answers now.service g new (Ok tt) → GotUpTo now.held held new.unsent unsent → Pipes s.opening s.limits s.faults now.faults (traffic l0 l ended s.held held s.clock clock s.salt salt) (end_of why)
unwritten_leaving lv new held unsent (stopped.Full full) writing legal a out = absurd writing
unwritten_leaving {s = s} {now = now} lv new held unsent stopped.WriteFault writing legal a out =
    let p = posted_out s.held now.held held new.unsent unsent _ (posted_with lv new a) out in
    entered lv new held end.WriteFault p.written a.0 legal p.got (inr (departed lv new p.written a.0), refl, posted_front p, refl)
unwritten_leaving lv new held unsent stopped.NoMemory writing legal a out = absurd writing

-- the departure at a stage whose input ended
leaving : (s : Start) (now : Standing) (clock salt : Supply) (l0 l : Option (List ℕ)) (pending : List ℕ) (ended : Bool) (new : Service) {result : Result (Unit {0}) Stopped} → Running s now l0 l pending → awaits_message now.service.past ≡ true → IsTrue ended
    → length pending ≡ 0 → next_of pending ≡ Partial → (d : IsDeparting now.service now.clock now.salt new clock salt result) → IsLeaving s now clock salt l0 l ended d.g
leaving s now clock salt l0 l pending ended new r waits all none partial d = record {
  running = subst (Running s now l0 l) (no_bytes pending none) r;
  partial = subst (λ (b : List ℕ). next_of b ≡ Partial) (no_bytes pending none) partial;
  waits = waits;
  all = all;
  departs = d.departs;
  moment = d.moment;
  word = d.word;
}

pub ends_done : (s : Start) (now : Standing) (clock salt : Supply) (l0 l : Option (List ℕ)) (pending : List ℕ) (ended : Bool) (new : Service) (held : Option (List ℕ)) (unsent : List ℕ) → Running s now l0 l pending → awaits_message now.service.past ≡ true → IsTrue ended
    → length pending ≡ 0 → next_of pending ≡ Partial → IsDeparting now.service now.clock now.salt new clock salt (Ok tt) → Legal new.past → GotUpTo now.held held new.unsent unsent → unsent ≡ []
    → Pipes s.opening s.limits s.faults now.faults (traffic l0 l ended s.held held s.clock clock s.salt salt) end.Done
ends_done s now clock salt l0 l pending ended new held unsent r waits all none partial d legal out written = left (leaving s now clock salt l0 l pending ended new r waits all none partial d) new held unsent legal d.answers out written

pub ends_unwritten : (s : Start) (now : Standing) (clock salt : Supply) (l0 l : Option (List ℕ)) (pending : List ℕ) (ended : Bool) (new : Service) (held : Option (List ℕ)) (unsent : List ℕ) (why : Stopped) → OnlyWriting {A = Unit {0}} (Err why) → Running s now l0 l pending
    → awaits_message now.service.past ≡ true → IsTrue ended → length pending ≡ 0 → next_of pending ≡ Partial → IsDeparting now.service now.clock now.salt new clock salt (Ok tt) → Legal new.past → GotUpTo now.held held new.unsent unsent
    → Pipes s.opening s.limits s.faults now.faults (traffic l0 l ended s.held held s.clock clock s.salt salt) (end_of why)
ends_unwritten s now clock salt l0 l pending ended new held unsent why writing r waits all none partial d legal out =
    unwritten_leaving (leaving s now clock salt l0 l pending ended new r waits all none partial d) new held unsent why writing legal d.answers out

pub ends_stopped : (s : Start) (now : Standing) (clock salt : Supply) (l0 l : Option (List ℕ)) (pending : List ℕ) (ended : Bool) (new : Service) (why : Stopped) → Running s now l0 l pending → awaits_message now.service.past ≡ true → now.service.unsent ≡ [] → IsTrue ended
    → length pending ≡ 0 → next_of pending ≡ Partial → IsDeparting now.service now.clock now.salt new clock salt (Err why) → Legal new.past
    → Pipes s.opening s.limits s.faults now.faults (traffic l0 l ended s.held now.held s.clock clock s.salt salt) (end_of why)
ends_stopped s now clock salt l0 l pending ended new why r waits written all none partial d legal = stopped_leaving (leaving s now clock salt l0 l pending ended new r waits all none partial d) new why written legal d.answers
