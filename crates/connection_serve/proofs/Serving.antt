-- What a connection did, put together of its opening and its two halves.
use Rattle.std.proofs.Common.{◌≡◌, ◌≢◌, ℕ, ◌<◌, ◌≤◌, ◌⊎◌, inl, inr, Bool, true, false, List, [], ◌∷◌, ◌++◌, Option, refl, ap, sym, ◌∙◌, subst}
use Rattle.std.specs.Prelude.{IsTrue, map}
use Rattle.std.proofs.lemmas.List.{append-nil}
use Rattle.authority_laws.proofs.Tracing.{access}
use Rattle.authority_laws.specs.Batches.{loads_in}
use Rattle.authority_messages.specs.Texts.{texts}
use Rattle.authority_model.specs.declared.journal.Item.{Item}
use Rattle.authority_model.specs.declared.journal.Limits.{Limits}
use Rattle.authority_model.specs.Given.{Given, What}
use Rattle.connection_laws.proofs.Doing.{did_learned, did_none}
use Rattle.connection_laws.proofs.Finding.{finds_learned, finds_none}
use Rattle.connection_laws.proofs.Growing.{knows_learned}
use Rattle.connection_laws.specs.Doings.{Did}
use Rattle.connection_reader.specs.declared.ends.ReaderEnd.{ReaderEnd}
use Rattle.connection_reader.specs.declared.ends.ReaderEnd.TheVariants as reader
use Rattle.connection_reader.specs.Reading.{Hand, Reading, ReadsTo, hand}
use Rattle.connection_lookout.specs.Watching.{HasMet, Watch}
use Rattle.connection_serve.proofs.Causes.{front_all, front_got, rose_above}
use Rattle.connection_serve.proofs.Meeting.{reads_met, with_pass, writes_met}
use Rattle.connection_serve.specs.declared.ends.End.{End}
use Rattle.connection_serve.specs.declared.ends.End.TheVariants as end
use Rattle.connection_serve.specs.Ends.{end_of, with_writer}
use Rattle.connection_serve.specs.Halves.{Halves, HasBegun, HasEnded, Meets, ReaderFaults}
use Rattle.pk_outside.specs.Allowing.{IsFront}
use Rattle.connection_serve.specs.Headline.{EndFaults, EndFits, EndIsKept, EndsEarly, EndsLate, IsCollected, IsCollecting, IsFresh, IsLate, IsWhole, Serves, Story, Tells, departure, greeting, sent_texts}
use Rattle.connection_writer.specs.declared.ends.WriterEnd.{WriterEnd}
use Rattle.connection_writer.specs.declared.ends.WriterEnd.TheVariants as writer
use Rattle.connection_writer.specs.Writing.{Writing, WritesTo, taken_texts}
use Rattle.history_lock.specs.declared.machine.TheConstants.{MOST_PASSES}
use Rattle.history_lock.specs.Calls.{Learned}
use Rattle.history_lock.specs.Entries.{NoneBy}
use Rattle.history_lock.specs.Known.{Known}
use Rattle.link_handshake.specs.Replies.{reply_lines}
use Rattle.link_handshake.specs.Shakes.{Shaken}
use Rattle.pk_outside.proofs.Written.{Gave-more, Got-more, Got-none}
use Rattle.pk_outside.specs.Streams.{Got, GotFront, IsUsedUp}
use Rattle.shared_authority.specs.Journals.{Fits, IsJournal, caller_of, past_of}

-- # The meeting

-- the two halves go on to say what they said
pub halves_met : (limits : Limits) (uid : ℕ) (s t : Hand) (ended : Bool) (v w : Known Item) (a b : Option (List ℕ)) (r0 r1 w0 w1 : ℕ) (read : ReaderEnd) (wrote : WriterEnd) (p c : Known Item) (x : Option Watch)
    → s.pass.number ≢ 0 → Learned caller_of IsJournal t.pass p → Learned caller_of IsJournal w c → HasMet p t.watch x → p.made ≤ MOST_PASSES → c.made ≤ MOST_PASSES
    → Halves limits uid s t ended v w a b r0 r1 w0 w1 read wrote → Halves limits uid s (with_pass t p x) ended v c a b r0 r1 w0 w1 read wrote
halves_met limits uid s t ended v w a b r0 r1 w0 w1 read wrote p c x other lp lc m top_p top_c h = record {
  reads = reads_met limits uid s t ended read p x lp m top_p h.reads;
  read_cause = h.read_cause;
  writes = writes_met limits s.pass.number a w0 v b w1 w wrote c other lc top_c h.writes;
}

-- # The reader

-- how far a reader came
abbrev pub story_of : (uid : ℕ) (refused : List Given) (tail : List What) (s t : Hand) → Reading uid refused tail s t → Story
story_of uid refused tail s t r = record { messages = r.messages; rest = t.unread; entered = r.handed; refused = refused; tail = tail }

pub story_told : (uid : ℕ) (refused : List Given) (tail : List What) (s t : Hand) (r : Reading uid refused tail s t) → Tells uid s.pass.number (s.unread ++ r.read) t.pass.history (story_of uid refused tail s t r)
story_told uid refused tail s t r = record { follow = r.stream; asks = r.asks; did = r.did }

-- What a reader did, whatever its end.
record Read (uid : ℕ) (s t : Hand) : Type 0 where
  pub refused : List Given
  pub tail : List What
  pub reading : Reading uid refused tail s t

-- # The writer

-- What a writer wrote, whatever its end.
record Answered (n : ℕ) (v w : Known Item) (a b : Option (List ℕ)) : Type 0 where
  pub collecting : IsCollecting v.number n w.history
  pub answers : List ℕ
  pub got : Got a b answers
  pub front : IsFront answers (taken_texts (past_of w.history) v.number n)

wrote_all : (gone : Bool) (n : ℕ) (v w : Known Item) (a b : Option (List ℕ)) → Writing gone (Got a b) n v w → Answered n v w a b
wrote_all gone n v w a b s = record {
  collecting = record { collects = s.collects; did = s.did; gone = gone; finds = s.finds };
  answers = taken_texts (past_of w.history) v.number n;
  got = s.wrote;
  front = front_all (taken_texts (past_of w.history) v.number n);
}

wrote_front : (gone : Bool) (n : ℕ) (v w : Known Item) (a b : Option (List ℕ)) → Writing gone (GotFront a b) n v w → Answered n v w a b
wrote_front gone n v w a b s = let f = front_got a b (taken_texts (past_of w.history) v.number n) s.wrote in record {
  collecting = record { collects = s.collects; did = s.did; gone = gone; finds = s.finds };
  answers = f.0;
  got = f.1;
  front = f.2;
}

answered_of : (limits : Limits) (n : ℕ) (a : Option (List ℕ)) (w0 : ℕ) (v : Known Item) (b : Option (List ℕ)) (w1 : ℕ) (w : Known Item) (wrote : WriterEnd) → WritesTo limits n a w0 v b w1 w wrote → (x : Answered n v w a b) × (wrote ≡ writer.All → x.answers ≡ sent_texts (past_of w.history) n)
unfolding wrote_all
answered_of limits n a w0 v b w1 w writer.All s = (wrote_all true n v w a b s.0, λ _. ap (texts (loads_in (past_of w.history)) 1) (sym s.1.all))
answered_of limits n a w0 v b w1 w (writer.Ended cause) s = (wrote_all false n v w a b s.0, λ is. absurd (cc (is)))
answered_of limits n a w0 v b w1 w writer.WriteFault s = (wrote_front false n v w a b s.0, λ is. absurd (cc (is)))
answered_of limits n a w0 v b w1 w writer.NoMemory s = (wrote_front false n v w a b s, λ is. absurd (cc (is)))

-- # The end

-- where the reader's end is this, and it handed in all
ends_by : (e : End) (limits : Limits) (n : ℕ) (a : Option (List ℕ)) (w0 : ℕ) (v : Known Item) (b : Option (List ℕ)) (w1 : ℕ) (w : Known Item) (wrote : WriterEnd) → WritesTo limits n a w0 v b w1 w wrote
    → (H : List Item) (s : Story) (answers : List ℕ) (left : Option (List ℕ)) (r1 : ℕ) → IsWhole s → (wrote ≡ writer.All → EndsLate e H n s answers left r1 w1) → EndsLate (with_writer e wrote) H n s answers left r1 w1
ends_by e limits n a w0 v b w1 w writer.All writes H s answers left r1 whole all = all refl
ends_by e limits n a w0 v b w1 w (writer.Ended cause) writes H s answers left r1 whole all = inr whole
ends_by e limits n a w0 v b w1 w writer.WriteFault writes H s answers left r1 whole all = (rose_above w0 w1 writes.1, whole)
ends_by e limits n a w0 v b w1 w writer.NoMemory writes H s answers left r1 whole all = whole

faults_by : (e : End) (limits : Limits) (n : ℕ) (a : Option (List ℕ)) (w0 : ℕ) (v : Known Item) (b : Option (List ℕ)) (w1 : ℕ) (w : Known Item) (wrote : WriterEnd) → WritesTo limits n a w0 v b w1 w wrote → (r0 r1 : ℕ) → EndFaults e r0 r1 w0 w1 → EndFaults (with_writer e wrote) r0 r1 w0 w1
faults_by e limits n a w0 v b w1 w writer.All writes r0 r1 f = f
faults_by e limits n a w0 v b w1 w (writer.Ended cause) writes r0 r1 f = tt
faults_by e limits n a w0 v b w1 w writer.WriteFault writes r0 r1 f = writes.1
faults_by e limits n a w0 v b w1 w writer.NoMemory writes r0 r1 f = tt

-- the end of the lock, as one who knows it tells
abbrev EndTold : Limits → End → Known Item → Type 0
EndTold limits e w = EndFits limits e w × EndIsKept e w

told_by : (e : End) (limits : Limits) (n : ℕ) (a : Option (List ℕ)) (w0 : ℕ) (v : Known Item) (b : Option (List ℕ)) (w1 : ℕ) (w : Known Item) (wrote : WriterEnd) → WritesTo limits n a w0 v b w1 w wrote → EndTold limits e w → EndTold limits (with_writer e wrote) w
told_by e limits n a w0 v b w1 w writer.All writes f = f
told_by e limits n a w0 v b w1 w (writer.Ended cause) writes f = (writes.1, writes.2)
told_by e limits n a w0 v b w1 w writer.WriteFault writes f = (tt, tt)
told_by e limits n a w0 v b w1 w writer.NoMemory writes f = (tt, tt)

-- a pass that knows the same tells the same
told_same : (limits : Limits) (e : End) (p w : Known Item) → p.history ≡ w.history → p.made ≡ w.made → p.ended ≡ w.ended → EndTold limits e w → EndTold limits e p
told_same limits (end.Ended cause) p w history made ended f = (
  subst (λ (h : List Item). Fits limits cause h p.made) (sym history) (subst (λ (m : ℕ). Fits limits cause w.history m) (sym made) f.0),
  ended ∙ f.1,
)
told_same limits end.WriteFault p w history made ended f = (tt, tt)
told_same limits end.ReadFault p w history made ended f = (tt, tt)
told_same limits (end.BadShake fault) p w history made ended f = (tt, tt)
told_same limits end.ShakeCut p w history made ended f = (tt, tt)
told_same limits (end.BadBytes _ at) p w history made ended f = (tt, tt)
told_same limits (end.Truncated rest) p w history made ended f = (tt, tt)
told_same limits end.Done p w history made ended f = (tt, tt)
told_same limits end.NoMemory p w history made ended f = (tt, tt)

-- # The two halves

-- What both halves did, and the end that it makes: `t` has the reader's pass and `w` is the writer's.
record Late (uid : ℕ) (s t : Hand) (v w : Known Item) (a b : Option (List ℕ)) (r0 r1 w0 w1 : ℕ) (e : End) : Type 0 where
  pub read : Read uid s t
  pub answered : Answered s.pass.number v w a b
  pub ends : EndsLate e w.history s.pass.number (story_of uid read.refused read.tail s t read.reading) answered.answers t.left r1 w1
  pub faults : EndFaults e r0 r1 w0 w1

module _ (limits : Limits) (uid : ℕ) (s t : Hand) (ended : Bool) (v w : Known Item) (a b : Option (List ℕ)) (r0 r1 w0 w1 : ℕ) (used : IsTrue ended → IsUsedUp t.left) (wrote : WriterEnd) (writes : WritesTo limits s.pass.number a w0 v b w1 w wrote) where
  answers : (x : Answered s.pass.number v w a b) × (wrote ≡ writer.All → x.answers ≡ sent_texts (past_of w.history) s.pass.number)
  answers = answered_of limits s.pass.number a w0 v b w1 w wrote writes

  -- the reader handed in all
  through : (e : End) → (reading : Reading uid [] departure s t) → (IsWhole (story_of uid [] departure s t reading) → (wrote ≡ writer.All → answers.0.answers ≡ sent_texts (past_of w.history) s.pass.number) → wrote ≡ writer.All
      → EndsLate e w.history s.pass.number (story_of uid [] departure s t reading) answers.0.answers t.left r1 w1) → EndFaults e r0 r1 w0 w1 → Late uid s t v w a b r0 r1 w0 w1 (with_writer e wrote)
  through e reading all faults =
      let whole : IsWhole (story_of uid [] departure s t reading) = record { none_refused = refl; departed = refl } in
      record {
        read = record { refused = []; tail = departure; reading = reading };
        answered = answers.0;
        ends = ends_by e limits s.pass.number a w0 v b w1 w wrote writes w.history (story_of uid [] departure s t reading) answers.0.answers t.left r1 whole (all whole answers.1);
        faults = faults_by e limits s.pass.number a w0 v b w1 w wrote writes r0 r1 faults;
      }

  late : (read : ReaderEnd) → ReadsTo limits uid s t ended read → ReaderFaults read r0 r1 → Late uid s t v w a b r0 r1 w0 w1 (end_of read wrote)
  late reader.Done r cause = through end.Done r.0.0 (λ whole all is. (r.1, used r.2, record { whole = whole; none_left = r.0.1; all_written = all is })) tt
  late (reader.Truncated rest) r cause = through (end.Truncated rest) r.0.0 (λ whole all is. (r.1, used r.4, r.3, r.2, record { whole = whole; none_left = r.0.1; all_written = all is })) tt
  late (reader.BadBytes kind at) r cause = through (end.BadBytes kind at) r.0.0 (λ whole all is. (r.1, record { whole = whole; none_left = r.0.1; all_written = all is })) tt
  late reader.ReadFault r cause = through end.ReadFault r.0.0 (λ whole all is. (rose_above r0 r1 cause, r.1, record { whole = whole; none_left = r.0.1; all_written = all is })) cause
  late reader.SightFault r cause = through end.NoMemory r (λ whole all is. whole) tt
  late reader.NoMemory r cause = through end.NoMemory r (λ whole all is. whole) tt
  late (reader.Ended kept) r cause = refused r.0
    where
      refused : (g : Given) × (Reading uid (g ∷ []) [] s t ⊎ Reading uid (g ∷ []) departure s t) → Late uid s t v w a b r0 r1 w0 w1 (end.Ended kept)
      refused (g, inl x) = record { read = record { refused = g ∷ []; tail = []; reading = x }; answered = answers.0; ends = inl (record { given = g; one_refused = refl; tail_is = inl refl }); faults = tt }
      refused (g, inr x) = record { read = record { refused = g ∷ []; tail = departure; reading = x }; answered = answers.0; ends = inl (record { given = g; one_refused = refl; tail_is = inr refl }); faults = tt }

  -- the end of the lock, as both tell it
  late_told : t.pass.history ≡ w.history → t.pass.made ≡ w.made → t.pass.ended ≡ w.ended → (read : ReaderEnd) → ReadsTo limits uid s t ended read → EndTold limits (end_of read wrote) t.pass
  late_told history made kept reader.Done r = told_same limits (with_writer end.Done wrote) t.pass w history made kept (told_by end.Done limits s.pass.number a w0 v b w1 w wrote writes (tt, tt))
  late_told history made kept (reader.Truncated rest) r = told_same limits (with_writer (end.Truncated rest) wrote) t.pass w history made kept (told_by (end.Truncated rest) limits s.pass.number a w0 v b w1 w wrote writes (tt, tt))
  late_told history made kept (reader.BadBytes kind at) r = told_same limits (with_writer (end.BadBytes kind at) wrote) t.pass w history made kept (told_by (end.BadBytes kind at) limits s.pass.number a w0 v b w1 w wrote writes (tt, tt))
  late_told history made kept reader.ReadFault r = told_same limits (with_writer end.ReadFault wrote) t.pass w history made kept (told_by end.ReadFault limits s.pass.number a w0 v b w1 w wrote writes (tt, tt))
  late_told history made kept reader.SightFault r = told_same limits (with_writer end.NoMemory wrote) t.pass w history made kept (told_by end.NoMemory limits s.pass.number a w0 v b w1 w wrote writes (tt, tt))
  late_told history made kept reader.NoMemory r = told_same limits (with_writer end.NoMemory wrote) t.pass w history made kept (told_by end.NoMemory limits s.pass.number a w0 v b w1 w wrote writes (tt, tt))
  late_told history made kept (reader.Ended cause) r = (r.1, r.2)

-- # The whole call

-- the replies to the handshake are those to all bytes
greets : (uid guid : ℕ) (l0 l1 h0 h1 : Option (List ℕ)) (rest : List ℕ) (o : HasBegun uid guid l0 l1 h0 h1 rest) (more : List ℕ) → greeting uid guid (o.read ++ more) ≡ reply_lines guid o.settles.replies
greets uid guid l0 l1 h0 h1 rest o more = ap (λ (x : Shaken). reply_lines guid x.replies) (o.settles.answered more)

-- where the messages began
pub late_serves : (limits : Limits) (uid guid : ℕ) (p p' v w : Known Item) (l0 l1 l2 h0 h1 h2 g0 g1 s0 s1 s2 : Option (List ℕ)) (rest rest' : List ℕ) (a b : Option Watch) (ended : Bool) (r0 r r1 w0 ws w1 : ℕ) (e : End) → IsFresh p v
    → HasBegun uid guid l0 l1 h0 h1 rest × (r ≡ r0) × (ws ≡ w0) → Got s0 s1 (guid ∷ []) → (IsTrue ended → IsUsedUp l2)
    → Meets limits uid (hand p l1 g0 s1 rest a) (hand p' l2 g1 s2 rest' b) ended v w h1 h2 r r1 ws w1 e
    → Serves limits uid p p' l0 l2 h0 h2 g0 g1 s0 s2 r0 r1 w0 w1 e × IsCollected v.number p'.number p'.history h0 h2
late_serves limits uid guid p p' v w l0 l1 l2 h0 h1 h2 g0 g1 s0 s1 s2 rest rest' a b ended r0 r r1 w0 ws w1 e fresh (o, same_reads, same_writes) word used met =
    let s = hand p l1 g0 s1 rest a in
    let t = hand p' l2 g1 s2 rest' b in
    let m : Meets limits uid s t ended v w h1 h2 r0 r1 w0 w1 e = subst (λ (k : ℕ). Meets limits uid s t ended v w h1 h2 r0 r1 k w1 e) same_writes (subst (λ (k : ℕ). Meets limits uid s t ended v w h1 h2 k r1 ws w1 e) same_reads met) in
    let x : Late uid s t v w h1 h2 r0 r1 w0 w1 e = subst (Late uid s t v w h1 h2 r0 r1 w0 w1) (sym m.end_is) (late limits uid s t ended v w h1 h2 r0 r1 w0 w1 used m.wrote m.halves.writes m.read m.halves.reads m.halves.read_cause) in
    let told : EndTold limits e p' = subst (λ (f : End). EndTold limits f p') (sym m.end_is) (late_told limits uid s t ended v w h1 h2 r0 r1 w0 w1 used m.wrote m.halves.writes m.same_history m.same_made m.same_ended m.read m.halves.reads) in
    let d : Reading uid x.read.refused x.read.tail s t = x.read.reading in
    let number = d.knows.number in
    let read : List ℕ = o.read ++ d.read in
    let written : List ℕ = greeting uid guid read ++ x.answered.answers in
    let got : Got h0 h2 written = subst (λ (l : List ℕ). Got h0 h2 (l ++ x.answered.answers)) (sym (greets uid guid l0 l1 h0 h1 rest o d.read)) (Got-more h0 h1 h2 (reply_lines guid o.settles.replies) x.answered.answers o.settles.wrote x.answered.got) in
    let readings : List ℕ = map (λ (g : Given). g.moment) (d.handed ++ x.read.refused) in
    let drawn : List ℕ = guid ∷ map (λ (g : Given). g.salt) (d.handed ++ x.read.refused) in
    let story : Story = story_of uid x.read.refused x.read.tail s t d in
    let here : IsLate w.history p.number uid guid e read l2 written readings drawn r1 w1 = record {
      stream = rest ++ d.read;
      begun = ap (λ (y : Shaken). y.standing) (o.settles.answered d.read);
      story = story;
      tells = subst (λ (h : List Item). Tells uid p.number (rest ++ d.read) h story) m.same_history (story_told uid x.read.refused x.read.tail s t d);
      moments = refl;
      salts = refl;
      collector = v.number;
      collecting = x.answered.collecting;
      answers = x.answered.answers;
      written_is = refl;
      front = x.answered.front;
      ends = x.ends;
    } in
    let there : IsLate p'.history p'.number uid guid e read l2 written readings drawn r1 w1 =
    subst (λ (n : ℕ). IsLate p'.history n uid guid e read l2 written readings drawn r1 w1) (sym number)
    (subst (λ (h : List Item). IsLate h p.number uid guid e read l2 written readings drawn r1 w1) (sym m.same_history) here) in
    let collecting : IsCollecting v.number p'.number p'.history = subst (λ (n : ℕ). IsCollecting v.number n p'.history) (sym number) (subst (λ (h : List Item). IsCollecting v.number p.number h) (sym m.same_history) x.answered.collecting) in
    let front : IsFront x.answered.answers (taken_texts (past_of p'.history) v.number p'.number) = subst (λ (n : ℕ). IsFront x.answered.answers (taken_texts (past_of p'.history) v.number n)) (sym number)
    (subst (λ (h : List Item). IsFront x.answered.answers (taken_texts (past_of h) v.number p.number)) (sym m.same_history) x.answered.front) in (
      record {
        read = read;
        written = written;
        readings = readings;
        drawn = drawn;
        has_read = Gave-more l0 l1 l2 o.read d.read o.gave d.gave;
        has_written = got;
        has_used = d.readings;
        has_drawn = Got-more s0 s1 s2 (guid ∷ []) (map (λ (g : Given). g.salt) (d.handed ++ x.read.refused)) word d.words;
        number = number;
        grows = d.knows.begins;
        made = d.knows.made;
        legal = d.knows.journal;
        licensed = access (past_of p'.history) d.knows.journal.history;
        connection = record { numbered = subst (λ (n : ℕ). 0 < n) (sym number) fresh.pass_above; guid = guid; did = inr there };
        faults = x.faults;
        ended = told.0;
        kept = told.1;
      },
      record {
        collecting = collecting;
        replies = greeting uid guid read;
        answers = x.answered.answers;
        has_written = got;
        front = front;
      },
    )

-- an end before the messages is not that of the lock
early_told : (limits : Limits) (e : End) (uid guid : ℕ) (read : List ℕ) (left : Option (List ℕ)) (written : List ℕ) (r1 w1 : ℕ) (w : Known Item) → EndsEarly e uid guid read left written r1 w1 → EndTold limits e w
early_told limits (end.Ended cause) uid guid read left written r1 w1 w ends = absurd ends
early_told limits end.WriteFault uid guid read left written r1 w1 w ends = (tt, tt)
early_told limits end.ReadFault uid guid read left written r1 w1 w ends = (tt, tt)
early_told limits (end.BadShake fault) uid guid read left written r1 w1 w ends = (tt, tt)
early_told limits end.ShakeCut uid guid read left written r1 w1 w ends = (tt, tt)
early_told limits (end.BadBytes _ at) uid guid read left written r1 w1 w ends = absurd ends
early_told limits (end.Truncated rest) uid guid read left written r1 w1 w ends = absurd ends
early_told limits end.Done uid guid read left written r1 w1 w ends = absurd ends
early_told limits end.NoMemory uid guid read left written r1 w1 w ends = (tt, tt)

-- a connection that only learned of others' items did nothing
did_nothing : (p p' : Known Item) → NoneBy caller_of p.number p.history → Learned caller_of IsJournal p p' → Did p.number (past_of p'.history) []
did_nothing p p' none l = did_learned p.number p p' [] refl l (did_none p.number p.history none)

-- where they did not begin
pub early_serves : (limits : Limits) (uid guid : ℕ) (p p' v w : Known Item) (l0 l1 h0 h1 g s0 s1 : Option (List ℕ)) (r0 r1 w0 w1 : ℕ) (e : End) → IsFresh p v
    → HasEnded uid guid l0 l1 h0 h1 r0 r1 w0 w1 e → Got s0 s1 (guid ∷ []) → Learned caller_of IsJournal p p' → Learned caller_of IsJournal v w → p'.history ≡ w.history
    → Serves limits uid p p' l0 l1 h0 h1 g g s0 s1 r0 r1 w0 w1 e × IsCollected v.number p'.number p'.history h0 h1
early_serves limits uid guid p p' v w l0 l1 h0 h1 g s0 s1 r0 r1 w0 w1 e fresh o word lp lv same =
    let told = early_told limits e uid guid o.read l1 o.written r1 w1 p' o.ends in
    let knows = knows_learned p p' lp in
    let by_collector : NoneBy caller_of v.number v.history = subst (λ (h : List Item). NoneBy caller_of v.number h) fresh.same fresh.none_by_collector in (
      record {
        read = o.read;
        written = o.written;
        readings = [];
        drawn = guid ∷ [];
        has_read = o.gave;
        has_written = o.got;
        has_used = Got-none g;
        has_drawn = word;
        number = knows.number;
        grows = knows.begins;
        made = knows.made;
        legal = knows.journal;
        licensed = access (past_of p'.history) knows.journal.history;
        connection = record {
          numbered = subst (λ (n : ℕ). 0 < n) (sym knows.number) fresh.pass_above;
          guid = guid;
          did = inl (record { none = subst (λ (n : ℕ). Did n (past_of p'.history) []) (sym knows.number) (did_nothing p p' fresh.none_by_pass lp); no_reading = refl; one_word = refl; ends = o.ends });
        };
        faults = o.faults;
        ended = told.0;
        kept = told.1;
      },
      record {
        collecting = subst (λ (h : List Item). IsCollecting v.number p'.number h) (sym same) (record {
          collects = 0;
          did = did_nothing v w by_collector lv;
          gone = false;
          finds = finds_learned v.number p'.number v w false refl lv (finds_none v.number p'.number v.history by_collector);
        });
        replies = o.written;
        answers = [];
        has_written = subst (Got h0 h1) (sym (append-nil o.written)) o.got;
        front = (taken_texts (past_of p'.history) v.number p'.number, refl);
      },
    )
