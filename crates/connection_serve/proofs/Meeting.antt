-- What the two halves said goes on to hold, once their passes have learned of others' items.
use Rattle.std.proofs.Common.{◌≡◌, ◌≢◌, ℕ, ◌≤◌, true, false, List, [], ◌∷◌, ◌++◌, Option, Some, Bool, length, inl, inr, ap, sym, ◌∙◌, subst}
use Rattle.std.specs.Prelude.{map, reverse}
use Rattle.std.proofs.lemmas.List.{reverse-append}
use mathlib.Core.List.{IsPrefix}
use Rattle.authority_calls.specs.Events.{event_of}
use Rattle.authority_laws.proofs.Sending.{sent_no_more, stays_departed}
use Rattle.authority_model.specs.declared.journal.Item.{Item}
use Rattle.authority_model.specs.declared.journal.Limits.{Limits}
use Rattle.authority_model.specs.Given.{Given, What}
use Rattle.authority_model.specs.Legal.{Legal}
use Rattle.authority_model.specs.Peers.{departed}
use Rattle.authority_model.specs.Sent.{sent_to}
use Rattle.connection_laws.proofs.Doing.{did_learned}
use Rattle.connection_laws.proofs.Growing.{knows_learned, knows_trans}
use Rattle.connection_laws.proofs.Taking.{taken_learned}
use Rattle.connection_reader.specs.declared.ends.ReaderEnd.{ReaderEnd}
use Rattle.connection_reader.specs.declared.ends.ReaderEnd.TheVariants as reader
use Rattle.connection_lookout.proofs.Watching.{watched_met, watched_on}
use Rattle.connection_reader.specs.Reading.{Hand, IsRefused, Reading, ReadsTo}
use Rattle.connection_lookout.specs.Watching.{HasMet, Watch}
use Rattle.connection_writer.proofs.Writes.{writes_learned}
use Rattle.connection_writer.specs.declared.ends.WriterEnd.{WriterEnd}
use Rattle.connection_writer.specs.declared.ends.WriterEnd.TheVariants as writer
use Rattle.connection_writer.specs.Writing.{HasGone, WritesTo}
use Rattle.history_lock.specs.declared.machine.TheConstants.{MOST_PASSES}
use Rattle.history_lock.proofs.Growth.{learned_begins}
use Rattle.history_lock.specs.Calls.{Learned}
use Rattle.history_lock.specs.declared.machine.EndCause.{EndCause}
use Rattle.history_lock.specs.Known.{Known}
use Rattle.pk_outside.specs.Streams.{Got, GotFront}
use Rattle.shared_authority.specs.Journals.{Fits, IsJournal, caller_of, past_of}
use Rattle.shared_authority.specs.Lasting.{fits_lasts}

-- a kept cause goes on to be known, and to fit
fits_learned : (limits : Limits) (cause : EndCause) (w w' : Known Item) → Learned caller_of IsJournal w w' → w'.made ≤ MOST_PASSES → Fits limits cause w.history w.made → Fits limits cause w'.history w'.made
fits_learned limits cause w w' l top fits = fits_lasts limits cause w.history w'.history w.made w'.made fits l.legal (learned_begins caller_of IsJournal w w' l) l.made top

kept_learned : (cause : EndCause) (w w' : Known Item) → Learned caller_of IsJournal w w' → w.ended ≡ Some cause → w'.ended ≡ Some cause
kept_learned cause w w' l kept = (l.ended cause kept).0

-- the hand of a reader whose pass stands for w, and whose sighter stands there
abbrev pub with_pass : Hand → Known Item → Option Watch → Hand
with_pass t w x = record t { pass = w; watch = x }

reading_learned : (uid : ℕ) (refused : List Given) (tail : List What) (s t : Hand) (w : Known Item) (x : Option Watch) → Learned caller_of IsJournal t.pass w → HasMet w t.watch x → Reading uid refused tail s t → Reading uid refused tail s (with_pass t w x)
reading_learned uid refused tail s t w x l m r = record {
  knows = knows_trans s.pass t.pass w r.knows (knows_learned t.pass w l);
  read = r.read;
  gave = r.gave;
  messages = r.messages;
  stream = r.stream;
  handed = r.handed;
  did = did_learned s.pass.number t.pass w r.handed r.knows.number l r.did;
  asks = r.asks;
  readings = r.readings;
  words = r.words;
  watched = watched_met s.pass.number (length r.handed) w.history (map event_of r.messages) w s.watch t.watch x
      (watched_on s.pass.number (length r.handed) t.pass.history (map event_of r.messages) w.history s.watch t.watch (learned_begins caller_of IsJournal t.pass w l) r.watched) m;
}

refused_learned : (uid : ℕ) (s t : Hand) (w : Known Item) (x : Option Watch) → Learned caller_of IsJournal t.pass w → HasMet w t.watch x → IsRefused uid s t → IsRefused uid s (with_pass t w x)
refused_learned uid s t w x l m (g, inl r) = (g, inl (reading_learned uid (g ∷ []) _ s t w x l m r))
refused_learned uid s t w x l m (g, inr r) = (g, inr (reading_learned uid (g ∷ []) _ s t w x l m r))

-- what the reader said
pub reads_met : (limits : Limits) (uid : ℕ) (s t : Hand) (ended : Bool) (end : ReaderEnd) (w : Known Item) (x : Option Watch) → Learned caller_of IsJournal t.pass w → HasMet w t.watch x → w.made ≤ MOST_PASSES → ReadsTo limits uid s t ended end → ReadsTo limits uid s (with_pass t w x) ended end
reads_met limits uid s t ended reader.Done w x l m top r = ((reading_learned uid [] _ s t w x l m r.0.0, r.0.1), r.1, r.2)
reads_met limits uid s t ended (reader.Truncated rest) w x l m top r = ((reading_learned uid [] _ s t w x l m r.0.0, r.0.1), r.1, r.2, r.3, r.4)
reads_met limits uid s t ended (reader.BadBytes _ at) w x l m top r = ((reading_learned uid [] _ s t w x l m r.0.0, r.0.1), r.1)
reads_met limits uid s t ended reader.ReadFault w x l m top r = ((reading_learned uid [] _ s t w x l m r.0.0, r.0.1), r.1)
reads_met limits uid s t ended reader.SightFault w x l m top r = reading_learned uid [] _ s t w x l m r
reads_met limits uid s t ended reader.NoMemory w x l m top r = reading_learned uid [] _ s t w x l m r
reads_met limits uid s t ended (reader.Ended cause) w x l m top r = (refused_learned uid s t w x l m r.0, fits_learned limits cause t.pass w l top r.1, kept_learned cause t.pass w l r.2)

-- one history begins another
turned : (h more : List Item) → IsPrefix h more → (later : List Item) × (past_of more ≡ later ++ past_of h)
turned h more p = (reverse p.0, sym (ap reverse p.1) ∙ reverse-append h p.0)

-- a connection that has gone is sent nothing more
gone_learned : (n : ℕ) (v w w' : Known Item) → n ≢ 0 → w.number ≡ v.number → Learned caller_of IsJournal w w' → HasGone n v w → HasGone n v w'
gone_learned n v w w' other is l gone =
    let t = turned w.history w'.history (learned_begins caller_of IsJournal w w' l) in
    let legal : Legal (t.0 ++ past_of w.history) = subst Legal t.1 l.legal.history in
    record {
      all = ap (λ (past : List Item). sent_to past n) t.1 ∙ sent_no_more t.0 (past_of w.history) n other legal gone.departed ∙ gone.all ∙ sym (taken_learned v.number n w w' is l);
      departed = ap (λ (past : List Item). departed past n) t.1 ∙ stays_departed t.0 (past_of w.history) n gone.departed;
    }

-- what the writer said
pub writes_met : (limits : Limits) (n : ℕ) (a : Option (List ℕ)) (before : ℕ) (v : Known Item) (b : Option (List ℕ)) (now : ℕ) (w : Known Item) (end : WriterEnd) (w' : Known Item) → n ≢ 0 → Learned caller_of IsJournal w w' → w'.made ≤ MOST_PASSES
    → WritesTo limits n a before v b now w end → WritesTo limits n a before v b now w' end
writes_met limits n a before v b now w writer.All w' other l top s = (writes_learned true (Got a b) n v w w' s.0 l, gone_learned n v w w' other s.0.knows.number l s.1)
writes_met limits n a before v b now w (writer.Ended cause) w' other l top s = (writes_learned false (Got a b) n v w w' s.0 l, fits_learned limits cause w w' l top s.1, kept_learned cause w w' l s.2)
writes_met limits n a before v b now w writer.WriteFault w' other l top s = (writes_learned false (GotFront a b) n v w w' s.0 l, s.1)
writes_met limits n a before v b now w writer.NoMemory w' other l top s = writes_learned false (GotFront a b) n v w w' s l
