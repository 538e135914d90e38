-- One more thing is handed in at a stage of a run: it is answered, or it stops the run.
use Rattle.std.proofs.Common.{◌≡◌, ◌==◌, ◌≤◌, ℕ, Bool, true, false, List, [], ◌∷◌, ◌++◌, Option, Some, None, Result, Ok, Err, refl, ap, sym, ◌∙◌, subst, length, arith, inl, inr}
use Rattle.pk_outside.specs.Streams.{Got}
use Rattle.dbus_values.specs.Next.{Seen}
use Rattle.authority_model.specs.declared.journal.Item.{Item}
use Rattle.authority_model.specs.declared.journal.Limits.{Limits}
use Rattle.authority_model.specs.Entering.{counted_bytes, is_full}
use Rattle.authority_model.specs.Given.{Given, history_of, next}
use Rattle.authority_model.specs.Items.{sent}
use Rattle.authority_model.specs.Legal.{Legal}
use Rattle.authority_core.specs.declared.halt.Fullness.{Fullness}
use Rattle.pipe_run.specs.declared.ends.Stopped.{Stopped}
use Rattle.pipe_run.specs.declared.ends.Stopped.TheVariants as stopped
use Rattle.pipe_run.specs.declared.served.TheConstants.{CONNECTION}
use Rattle.pipe_run.specs.Answered.{Answers, IsAdded, IsFilled, IsReady, IsWrittenOut, OnlyWriting, Service}
use Rattle.pipe_run.specs.Bytes.{newest_bytes, sent_bytes}
use Rattle.pk_outside.specs.Allowing.{IsFront}
use Rattle.pipe_run.specs.Handed.{Progress, AreHandedIn, IsDue, moments_of, words_of}
use Rattle.pipe_run.specs.Stages.{Halted, IsPosted, Stage, Standing, Start, Turned, standing}
use Rattle.pipe_run.specs.Supplies.{Supply, Took}
use Rattle.pipe_run.proofs.Posting.{posted_all, posted_before, posted_front, posted_more, posted_out}
use Rattle.pipe_run.proofs.Supplying.{took_more}
use Rattle.pipe_run.proofs.Takings.{one_moment, one_word, word_for}

-- how far a run came
abbrev pub progress : List Seen → ℕ → Progress
progress messages faults = record { messages = messages; faults = faults }

-- One thing that is due and is handed in, with what it takes of the clock and of the random words; the tree may have failed before.
pub record IsNextGiven (s : Start) (now new : Standing) (messages with_it : List Seen) (g : Given) : Type 0 where
  pub due : IsDue s.opening now.service.past (progress messages now.faults) g (progress with_it new.faults)
  pub moment : Took now.clock new.clock (g.moment ∷ [])
  pub word : Took now.salt new.salt (word_for (g.caller == CONNECTION) g)
  pub later : now.faults ≤ new.faults

-- what is due after the stage's items is due after what was handed in
pub due_at : (s : Start) (past past' : List Item) (before after : Progress) (g : Given) → past ≡ past' → IsDue s.opening past before g after → IsDue s.opening past' before g after
due_at s past past' before after g same due = subst (λ (p : List Item). IsDue s.opening p before g after) same due

pub room_at : (limits limits' : Limits) (past past' : List Item) (b : Bool) → limits ≡ limits' → past ≡ past' → is_full limits past ≡ b → is_full limits' past' ≡ b
room_at limits limits' past past' b same_limits same e = rw (sym same_limits, sym same) e

-- what stood before an addition stands in its history
added_past : (s : Start) (now new : Standing) (messages : List Seen) (g : Given) (st : Stage s now messages) → IsAdded now.service g new.service → new.service.past ≡ history_of (g ∷ st.given)
added_past s now new messages g st added = added.past ∙ ap (λ (p : List Item). next p g ∷ p) st.past

-- all bytes are those before and the newest
pub sent_more : (past : List Item) (old : List Item) (i : Item) → past ≡ i ∷ old → sent_bytes CONNECTION past ≡ sent_bytes CONNECTION old ++ newest_bytes CONNECTION past
sent_more past old i is = subst (λ (p : List Item). sent_bytes CONNECTION p ≡ sent_bytes CONNECTION old ++ newest_bytes CONNECTION p) (sym is) refl

-- the moments and the words of one more
more_moments : (s : Start) (now new : Standing) (messages with_it : List Seen) (g : Given) (st : Stage s now messages) → IsNextGiven s now new messages with_it g → Took s.clock new.clock (moments_of (g ∷ st.given))
more_moments s now new messages with_it g st n = subst (Took s.clock new.clock) (sym (one_moment g st.given)) (took_more s.clock now.clock new.clock (moments_of st.given) (g.moment ∷ []) st.moments n.moment)

more_words : (s : Start) (now new : Standing) (messages with_it : List Seen) (g : Given) (st : Stage s now messages) → IsNextGiven s now new messages with_it g → Took s.salt new.salt (words_of (g ∷ st.given))
more_words s now new messages with_it g st n = subst (Took s.salt new.salt) (sym (one_word g st.given)) (took_more s.salt now.salt new.salt (words_of st.given) (word_for (g.caller == CONNECTION) g) st.words n.word)

-- what was entered, with one more
more_handed : (s : Start) (now new : Standing) (messages with_it : List Seen) (g : Given) (st : Stage s now messages) → IsNextGiven s now new messages with_it g → IsAdded now.service g new.service
    → AreHandedIn s.opening s.limits s.faults (g ∷ st.given) (progress with_it new.faults)
more_handed s now new messages with_it g st n added = (progress messages now.faults, due_at s _ _ _ _ g st.past n.due, room_at _ _ _ _ false st.limits st.past added.room, st.handed)

-- what was posted, where the output is as it was
posted_at : (s : Start) (now new : Standing) (messages : List Seen) (st : Stage s now messages) → new.held ≡ now.held → IsPosted s.held new.held now.service.unsent (sent_bytes CONNECTION now.service.past)
posted_at s now new messages st same = subst (λ h. IsPosted s.held h now.service.unsent (sent_bytes CONNECTION now.service.past)) (sym same) st.posted

-- it was answered
on : (s : Start) (now new : Standing) (messages with_it : List Seen) (g : Given) → Stage s now messages → IsNextGiven s now new messages with_it g → new.held ≡ now.held → Answers now.service g new.service (Ok tt) → Legal new.service.past → Stage s new with_it
on s now new messages with_it g st n same a legal = record {
  given = g ∷ st.given;
  handed = more_handed s now new messages with_it g st n a.0;
  past = added_past s now new messages g st a.0;
  limits = a.0.limits ∙ st.limits;
  sent = a.1;
  legal = legal;
  moments = more_moments s now new messages with_it g st n;
  words = more_words s now new messages with_it g st n;
  posted = posted_more s.held new.held _ _ _ _ _ (posted_at s now new messages st same) a.2 (sent_more new.service.past now.service.past _ a.0.past);
}

-- what was written is a prefix of what was sent with one more
front_with : (s : Start) (now new : Standing) (messages : List Seen) (g : Given) (st : Stage s now messages) → IsAdded now.service g new.service → IsFront st.posted.written (sent_bytes CONNECTION (history_of (g ∷ st.given)))
front_with s now new messages g st added =
    subst (λ (p : List Item). IsFront st.posted.written (sent_bytes CONNECTION p)) (added_past s now new messages g st added)
    (posted_before (sent_bytes CONNECTION new.service.past) (newest_bytes CONNECTION new.service.past) st.posted (sent_more new.service.past now.service.past _ added.past))

-- and of what was sent before
front_at : (s : Start) (now : Standing) (messages : List Seen) (st : Stage s now messages) → IsFront st.posted.written (sent_bytes CONNECTION (history_of st.given))
front_at s now messages st = subst (λ (p : List Item). IsFront st.posted.written (sent_bytes CONNECTION p)) st.past (posted_front st.posted)

-- what was written, where the output is as it was
written_at : (s : Start) (now new : Standing) (messages : List Seen) (st : Stage s now messages) → new.held ≡ now.held → Got s.held new.held st.posted.written
written_at s now new messages st same = subst (λ h. Got s.held h st.posted.written) (sym same) st.posted.got

kept_legal : (s : Start) (now : Standing) (messages : List Seen) (st : Stage s now messages) → Legal (history_of st.given)
kept_legal s now messages st = subst Legal st.past st.legal

-- the journal was full, and all was written before
filled : (s : Start) (now new : Standing) (messages with_it : List Seen) (g : Given) (full : Fullness) (st : Stage s now messages) → IsNextGiven s now new messages with_it g → IsFilled now.service new.service full.entries full.bytes → new.held ≡ now.held
    → now.service.unsent ≡ [] → Halted s new messages with_it (stopped.Full full)
filled s now new messages with_it g full st n f same none = record {
  halt = record { given = st.given; refused = Some g; progress = progress with_it new.faults; written = sent_bytes CONNECTION (history_of st.given) };
  messages = inr refl;
  legal = kept_legal s now messages st;
  moments = more_moments s now new messages with_it g st n;
  words = more_words s now new messages with_it g st n;
  written = subst (λ (p : List Item). Got s.held new.held (sent_bytes CONNECTION p)) st.past (posted_all s.held new.held _ _ (posted_at s now new messages st same) none);
  by = (
    record {
      last = g;
      refused = refl;
      before = progress messages now.faults;
      handed = st.handed;
      due = due_at s _ _ _ _ g st.past n.due;
      full = room_at _ _ _ _ true st.limits st.past f.full;
      entries_are = f.entries_are ∙ ap length st.past;
      bytes_are = f.bytes_are ∙ ap counted_bytes st.past;
      written = refl;
    },
    refl,
  );
}

-- memory was refused before anything was entered
refused_memory : (s : Start) (now new : Standing) (messages with_it : List Seen) (g : Given) (st : Stage s now messages) → IsNextGiven s now new messages with_it g → new.held ≡ now.held → Halted s new messages with_it stopped.NoMemory
refused_memory s now new messages with_it g st n same = record {
  halt = record { given = st.given; refused = Some g; progress = progress messages now.faults; written = st.posted.written };
  messages = inl refl;
  legal = kept_legal s now messages st;
  moments = more_moments s now new messages with_it g st n;
  words = more_words s now new messages with_it g st n;
  written = written_at s now new messages st same;
  by = (st.handed, front_at s now messages st, n.later);
}

-- memory was refused behind the entry
entered_memory : (s : Start) (now new : Standing) (messages with_it : List Seen) (g : Given) (st : Stage s now messages) → IsNextGiven s now new messages with_it g → new.held ≡ now.held → IsAdded now.service g new.service → Legal new.service.past
    → Halted s new messages with_it stopped.NoMemory
entered_memory s now new messages with_it g st n same added legal = record {
  halt = record { given = g ∷ st.given; refused = None; progress = progress with_it new.faults; written = st.posted.written };
  messages = inr refl;
  legal = subst Legal (added_past s now new messages g st added) legal;
  moments = more_moments s now new messages with_it g st n;
  words = more_words s now new messages with_it g st n;
  written = written_at s now new messages st same;
  by = (more_handed s now new messages with_it g st n added, front_with s now new messages g st added, omega arith);
}

-- memory was refused before anything was handed in
pub no_memory : (s : Start) (now : Standing) (messages with_it : List Seen) → Stage s now messages → Halted s now messages with_it stopped.NoMemory
no_memory s now messages with_it st = record {
  halt = record { given = st.given; refused = None; progress = progress messages now.faults; written = st.posted.written };
  messages = inl refl;
  legal = kept_legal s now messages st;
  moments = st.moments;
  words = st.words;
  written = st.posted.got;
  by = (st.handed, front_at s now messages st, omega arith);
}

-- a write failed before anything was handed in
write_failed : (s : Start) (now : Standing) (messages with_it : List Seen) → Stage s now messages → Halted s now messages with_it stopped.WriteFault
write_failed s now messages with_it st = record {
  halt = record { given = st.given; refused = None; progress = progress messages now.faults; written = st.posted.written };
  messages = inl refl;
  legal = kept_legal s now messages st;
  moments = st.moments;
  words = st.words;
  written = st.posted.got;
  by = (st.handed, refl, front_at s now messages st, refl);
}

-- what was kept was written, or the first of it
pub staged_out : (s : Start) (old new : Service) (faults : ℕ) (clock salt : Supply) (held held_after : Option (List ℕ)) (messages : List Seen) → IsWrittenOut old held new held_after → Stage s (standing old faults clock salt held) messages
    → Stage s (standing new faults clock salt held_after) messages
staged_out s old new faults clock salt held held_after messages w st = record {
  given = st.given;
  handed = st.handed;
  past = w.past ∙ st.past;
  limits = w.limits ∙ st.limits;
  sent = w.sent ∙ st.sent ∙ ap (λ p. sent p CONNECTION) (sym w.past);
  legal = subst Legal (sym w.past) st.legal;
  moments = st.moments;
  words = st.words;
  posted = subst (λ (p : List Item). IsPosted s.held held_after new.unsent (sent_bytes CONNECTION p)) (sym w.past) (posted_out s.held held held_after old.unsent new.unsent _ st.posted w.out);
}

-- where a write fails, nothing but that stops the run
pub unwritten : (s : Start) (now : Standing) (messages with_it : List Seen) (why : Stopped) → OnlyWriting {A = Unit {0}} (Err why) → Stage s now messages → Halted s now messages with_it why
unwritten s now messages with_it (stopped.Full full) writing st = absurd writing
unwritten s now messages with_it stopped.WriteFault writing st = write_failed s now messages with_it st
unwritten s now messages with_it stopped.NoMemory writing st = absurd writing

-- what was due stopped the run
stop : (s : Start) (now new : Standing) (messages with_it : List Seen) (g : Given) (why : Stopped) → Stage s now messages → IsNextGiven s now new messages with_it g → new.held ≡ now.held → IsReady now.service
    → Answers now.service g new.service (Err why) → Legal new.service.past → Halted s new messages with_it why
stop s now new messages with_it g (stopped.Full full) st n same ready a legal = filled s now new messages with_it g full st n a same (ready a.full)
stop s now new messages with_it g stopped.WriteFault st n same ready a legal = absurd a
stop s now new messages with_it g stopped.NoMemory st n same ready (inl a) legal = refused_memory s now new messages with_it g st n same
stop s now new messages with_it g stopped.NoMemory st n same ready (inr a) legal = entered_memory s now new messages with_it g st n same a legal

-- One more thing was handed in. All was written before where the journal is full.
pub handed_in : (s : Start) (now new : Standing) (messages with_it : List Seen) (g : Given) (result : Result (Unit {0}) Stopped) → Stage s now messages → IsNextGiven s now new messages with_it g → new.held ≡ now.held
    → IsReady now.service → Answers now.service g new.service result → Legal new.service.past → Turned s new messages with_it result
handed_in s now new messages with_it g (Ok done) st n same ready a legal = on s now new messages with_it g st n same a legal
handed_in s now new messages with_it g (Err why) st n same ready a legal = stop s now new messages with_it g why st n same ready a legal
