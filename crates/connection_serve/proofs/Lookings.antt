-- What a connection says of its looks, put together of its two halves.
use Rattle.std.proofs.Common.{◌≡◌, ◌≢◌, ◌≤◌, ℕ, List, [], ◌∷◌, ◌++◌, Option, Some, None, length, inl, inr, refl, ap, sym, subst}
use Rattle.std.specs.Prelude.{◌⊎◌, Bool, map}
use Rattle.authority_calls.specs.Events.{event_of}
use Rattle.authority_laws.specs.Batches.{loads_in}
use Rattle.authority_messages.specs.Texts.{texts}
use Rattle.authority_model.specs.declared.journal.Item.{Item}
use Rattle.authority_model.specs.declared.journal.Limits.{Limits}
use Rattle.authority_model.specs.Given.{Given, What}
use Rattle.connection_laws.proofs.Doing.{did_learned, did_none}
use Rattle.connection_laws.specs.Doings.{Did}
use Rattle.connection_lookout.proofs.Watching.{watched_met, watched_on, watched_self}
use Rattle.connection_reader.specs.declared.ends.ReaderEnd.{ReaderEnd}
use Rattle.connection_reader.specs.declared.ends.ReaderEnd.TheVariants as reader
use Rattle.connection_reader.specs.Reading.{Hand, Reading, ReadsTo, SightFaultsTo}
use Rattle.connection_lookout.specs.Watching.{HasMet, IsFresh, Watch, Watched, own}
use Rattle.connection_serve.specs.declared.ends.LiveEnd.{LiveEnd}
use Rattle.connection_serve.specs.declared.ends.LiveEnd.TheVariants as live
use Rattle.connection_serve.specs.Ends.{OnSightFault, end_of, live_end_of, plain_of}
use Rattle.connection_serve.specs.Headline.{departure, sent_texts}
use Rattle.connection_serve.specs.Live.{KnowsSame, LooksBefore, WroteAll}
use Rattle.connection_serve.proofs.Meeting.{writes_met}
use Rattle.connection_serve.proofs.Serving.{story_of, story_told}
use Rattle.connection_writer.specs.declared.ends.WriterEnd.{WriterEnd}
use Rattle.connection_writer.specs.declared.ends.WriterEnd.TheVariants as writer
use Rattle.connection_writer.specs.Writing.{WritesTo}
use Rattle.history_lock.specs.declared.machine.TheConstants.{MOST_PASSES}
use Rattle.history_lock.proofs.Growth.{learned_begins}
use Rattle.history_lock.specs.Calls.{Learned}
use Rattle.history_lock.specs.Entries.{NoneBy}
use Rattle.history_lock.specs.Known.{Known}
use Rattle.pk_outside.proofs.Written.{Got-more}
use Rattle.pk_outside.specs.Causes.{Rose}
use Rattle.pk_outside.specs.Streams.{Got}
use Rattle.shared_authority.specs.Journals.{IsJournal, caller_of, past_of}

-- the end that is told of the ends of the two halves
pub plain_is : (read : ReaderEnd) (wrote : WriterEnd) → plain_of (live_end_of read wrote) ≡ end_of read wrote
plain_is reader.SightFault writer.All = refl
plain_is reader.SightFault (writer.Ended cause) = refl
plain_is reader.SightFault writer.WriteFault = refl
plain_is reader.SightFault writer.NoMemory = refl
plain_is reader.Done wrote = refl
plain_is (reader.Truncated rest) wrote = refl
plain_is (reader.BadBytes _ at) wrote = refl
plain_is reader.ReadFault wrote = refl
plain_is reader.NoMemory wrote = refl
plain_is (reader.Ended cause) wrote = refl

-- a sight fault of the connection is one of the reader, where the writer wrote all
pub on_sight : (fact : Type 0) (read : ReaderEnd) (wrote : WriterEnd) → (read ≡ reader.SightFault → wrote ≡ writer.All → fact) → OnSightFault (live_end_of read wrote) fact
on_sight fact reader.SightFault writer.All so = so refl refl
on_sight fact reader.SightFault (writer.Ended cause) so = tt
on_sight fact reader.SightFault writer.WriteFault so = tt
on_sight fact reader.SightFault writer.NoMemory so = tt
on_sight fact reader.Done wrote so = tt
on_sight fact (reader.Truncated rest) wrote so = tt
on_sight fact (reader.BadBytes _ at) wrote so = tt
on_sight fact reader.ReadFault wrote so = tt
on_sight fact reader.NoMemory wrote so = tt
on_sight fact (reader.Ended cause) wrote so = tt

-- and the reader counted it
pub sight_rose : (before now : ℕ) (read : ReaderEnd) (wrote : WriterEnd) → SightFaultsTo before now read → OnSightFault (live_end_of read wrote) (Rose before now)
sight_rose before now read wrote f = on_sight (Rose before now) read wrote (λ is all. subst (SightFaultsTo before now) is f)

-- what a reader did, whatever its end, is a story that the sighter followed
told : (uid : ℕ) (refused : List Given) (tail : List What) (s t : Hand) → Reading uid refused tail s t → LooksBefore uid t.pass.number t.pass.history s.watch t.watch
told uid refused tail s t r =
    subst (λ (n : ℕ). LooksBefore uid n t.pass.history s.watch t.watch) (sym r.knows.number)
    (record { stream = s.unread ++ r.read; story = story_of uid refused tail s t r; tells = story_told uid refused tail s t r; watched = r.watched })

pub looks_told : (limits : Limits) (uid : ℕ) (s t : Hand) (ended : Bool) (read : ReaderEnd) → ReadsTo limits uid s t ended read → LooksBefore uid t.pass.number t.pass.history s.watch t.watch
looks_told limits uid s t ended reader.Done r = told uid [] departure s t r.0.0
looks_told limits uid s t ended (reader.Truncated rest) r = told uid [] departure s t r.0.0
looks_told limits uid s t ended (reader.BadBytes _ at) r = told uid [] departure s t r.0.0
looks_told limits uid s t ended reader.ReadFault r = told uid [] departure s t r.0.0
looks_told limits uid s t ended reader.SightFault r = told uid [] departure s t r
looks_told limits uid s t ended reader.NoMemory r = told uid [] departure s t r
looks_told limits uid s t ended (reader.Ended cause) r = either r.0
  where
    either : (g : Given) × (Reading uid (g ∷ []) [] s t ⊎ Reading uid (g ∷ []) departure s t) → LooksBefore uid t.pass.number t.pass.history s.watch t.watch
    either (g, inl x) = told uid (g ∷ []) [] s t x
    either (g, inr x) = told uid (g ∷ []) departure s t x

-- and goes on to be, once the sighter has met the connection's pass
pub looks_met : (uid : ℕ) (v w : Known Item) (a b c : Option Watch) → Learned caller_of IsJournal v w → HasMet w b c → LooksBefore uid v.number v.history a b → LooksBefore uid w.number w.history a c
looks_met uid v w a b c l m x = record {
  stream = x.stream;
  story = x.story;
  tells = record { follow = x.tells.follow; asks = x.tells.asks; did = subst (λ (n : ℕ). Did n (past_of w.history) x.story.entered) (sym l.number) (did_learned v.number v w x.story.entered refl l x.tells.did) };
  watched = subst (λ (n : ℕ). Watched (own n (length x.story.entered) w.history) (map event_of x.story.messages) a c) (sym l.number)
      (watched_met v.number (length x.story.entered) w.history (map event_of x.story.messages) w a b c
      (watched_on v.number (length x.story.entered) v.history (map event_of x.story.messages) w.history a b (learned_begins caller_of IsJournal v w l) x.watched) m);
}

-- a sighter that met the connection's pass knows the same
pub knows_met : (p : Known Item) (a b : Option Watch) → HasMet p a b → KnowsSame p b
knows_met p None None m = tt
knows_met p None (Some b) m = absurd m
knows_met p (Some a) None m = absurd m
knows_met p (Some a) (Some b) m = (m.history, m.made, m.ended)

-- where the messages did not begin
pub early_looked : (v w : Known Item) (a b : Option Watch) → NoneBy caller_of v.number v.history → Learned caller_of IsJournal v w → IsFresh a → HasMet w a b → Did w.number (past_of w.history) [] × Watched (own w.number 0 w.history) [] a b
early_looked v w a b none l fresh m = (
  subst (λ (n : ℕ). Did n (past_of w.history) []) (sym l.number) (did_learned v.number v w [] refl l (did_none v.number v.history none)),
  watched_met w.number 0 w.history [] w a a b (watched_self (own w.number 0 w.history) a fresh) m,
)

-- all that was sent was written, where the writer wrote all
pub wrote_all_sent : (limits : Limits) (n : ℕ) (a : Option (List ℕ)) (w0 : ℕ) (v : Known Item) (b : Option (List ℕ)) (w1 : ℕ) (w : Known Item) (wrote : WriterEnd) → WritesTo limits n a w0 v b w1 w wrote → wrote ≡ writer.All → Got a b (sent_texts (past_of w.history) n)
wrote_all_sent limits n a w0 v b w1 w wrote writes is = all (subst (WritesTo limits n a w0 v b w1 w) is writes)
  where
    all : WritesTo limits n a w0 v b w1 w writer.All → Got a b (sent_texts (past_of w.history) n)
    all x = subst (Got a b) (ap (texts (loads_in (past_of w.history)) 1) (sym x.1.all)) x.0.wrote

-- the same once the passes have met, where the end is a sight fault
pub all_written : (limits : Limits) (n : ℕ) (a : Option (List ℕ)) (w0 : ℕ) (v : Known Item) (b : Option (List ℕ)) (w1 : ℕ) (w : Known Item) (read : ReaderEnd) (wrote : WriterEnd) (p c : Known Item) (e : LiveEnd) → e ≡ live_end_of read wrote
    → n ≢ 0 → Learned caller_of IsJournal w c → p.history ≡ c.history → c.made ≤ MOST_PASSES → WritesTo limits n a w0 v b w1 w wrote → OnSightFault e (Got a b (sent_texts (past_of p.history) n))
all_written limits n a w0 v b w1 w read wrote p c e is other l same top writes =
    subst (λ (e : LiveEnd). OnSightFault e (Got a b (sent_texts (past_of p.history) n))) (sym is)
    (on_sight (Got a b (sent_texts (past_of p.history) n)) read wrote
    (λ _ all. subst (λ (h : List Item). Got a b (sent_texts (past_of h) n)) (sym same) (wrote_all_sent limits n a w0 v b w1 c wrote (writes_met limits n a w0 v b w1 w wrote c other l top writes) all)))

-- and the replies to the handshake before it
pub late_wrote : (e : LiveEnd) (n : ℕ) (H : List Item) (a b c : Option (List ℕ)) (replies : List ℕ) → Got a b replies → OnSightFault e (Got b c (sent_texts (past_of H) n)) → OnSightFault e (WroteAll n H a c)
late_wrote live.SightFault n H a b c replies first rest = (replies, Got-more a b c replies (sent_texts (past_of H) n) first rest)
late_wrote (live.Plain e) n H a b c replies first rest = tt
