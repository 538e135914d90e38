-- What a Collect, a batch and a refusal make of what was written.
use Rattle.std.proofs.Common.{◌≡◌, ◌≢◌, ℕ, suc, ◌+◌, ◌≤◌, Bool, true, false, List, [], ◌++◌, Option, None, Some, refl, ap, sym, ◌∙◌, subst, arith, length, take, drop}
use Rattle.std.specs.Option.{is_some}
use Rattle.std.proofs.lemmas.List.{append-nil, take-append-drop, length-take-le}
use mathlib.Core.List.{IsPrefix}
use Rattle.authority_core.specs.declared.collecting.Batch.{Batch}
use Rattle.authority_laws.specs.Batches.{IsBatch, collect_given, greatest_load, loads_in, taken}
use Rattle.authority_messages.specs.Texts.{texts}
use Rattle.authority_model.specs.declared.journal.Item.{Item}
use Rattle.authority_model.specs.declared.journal.Limits.{Limits}
use Rattle.authority_model.specs.declared.load.Loaded.{Loaded}
use Rattle.authority_model.specs.declared.message.Output.{Output}
use Rattle.authority_model.specs.Sent.{batch, collected, sent_to}
use Rattle.connection_laws.proofs.Doing.{did_entered, did_learned, did_none}
use Rattle.connection_laws.proofs.Finding.{finds_entered, finds_learned, finds_none, some_found}
use Rattle.connection_laws.proofs.Growing.{knows_entered, knows_learned, knows_self, knows_trans}
use Rattle.connection_laws.proofs.Refused.{collect_learned}
use Rattle.connection_laws.proofs.Taking.{collected_is, greatest_drop, loads_grow, loads_same, taken_learned, taken_named, taken_none, took_all, took_batch}
use Rattle.connection_laws.specs.Takings.{are_none}
use Rattle.history_lock.specs.Calls.{Learned}
use Rattle.history_lock.specs.Entries.{NoneBy}
use Rattle.history_lock.specs.Known.{Known}
use Rattle.pk_outside.proofs.Written.{Got-more, Got-none}
use Rattle.pk_outside.specs.Streams.{Got, GotFront}
use Rattle.shared_authority.specs.declared.collecting.CollectRefused.{CollectRefused}
use Rattle.shared_authority.specs.Journals.{IsJournal, caller_of, past_of}
use Rattle.shared_authority.specs.Passes.{CollectIsRefused, Entered, TookBatch, TookNothing}
use Rattle.connection_writer.proofs.Texts.{texts-append, texts_prefix}
use Rattle.connection_writer.proofs.Written.{front_behind, front_of_got}
use Rattle.connection_writer.specs.Writing.{HasGone, IsWritable, Writing, collects_of, taken_texts}

-- the messages of outputs that were taken stay the same, where more loads come
texts_later : (h more : List Item) (b n : ℕ) → IsJournal h → IsPrefix h more → texts (loads_in (past_of more)) 1 (taken (past_of h) b n) ≡ taken_texts (past_of h) b n
texts_later h more b n journal p = texts_prefix (loads_in (past_of h)) (loads_in (past_of more)) 1 (taken (past_of h) b n) (loads_grow h more p) (taken_named (past_of h) b n journal.history)

-- the pass learned of others' items
pub writes_learned : (gone : Bool) (P : List ℕ → Type 0) (n : ℕ) (v w w' : Known Item) → Writing gone P n v w → Learned caller_of IsJournal w w' → Writing gone P n v w'
writes_learned gone P n v w w' s l =
    let is = s.knows.number in
    let more = knows_learned w w' l in
    record {
      knows = knows_trans v w w' s.knows more;
      collects = s.collects;
      did = did_learned v.number w w' (collects_of v.number n s.collects) is l s.did;
      finds = finds_learned v.number n w w' gone is l s.finds;
      wrote = subst P (sym (ap (texts (loads_in (past_of w'.history)) 1) (taken_learned v.number n w w' is l) ∙ texts_later w.history w'.history v.number n s.knows.journal more.begins)) s.wrote;
    }

-- after a Collect of its own
pub writes_entered : (gone : Bool) (P Q : List ℕ → Type 0) (n : ℕ) (v w w' : Known Item) (s : Writing false P n v w) (e : Entered w (collect_given v.number n) w')
    → are_none (batch (past_of e.learned.grown.before) v.number n) ≡ gone → Q (taken_texts (past_of w'.history) v.number n) → Writing gone Q n v w'
writes_entered gone P Q n v w w' s e nothing wrote = record {
  knows = knows_trans v w w' s.knows (knows_entered w (collect_given v.number n) w' e);
  collects = suc s.collects;
  did = did_entered v.number w (collect_given v.number n) w' (collects_of v.number n s.collects) s.knows.number e s.did;
  finds = finds_entered v.number n w w' gone s.knows.number e nothing s.finds;
  wrote = wrote;
}

-- the messages of what it has taken then are those of what it had taken, and those of the batch
pub entered_texts : (P : List ℕ → Type 0) (n : ℕ) (v w w' : Known Item) → Writing false P n v w → (e : Entered w (collect_given v.number n) w')
    → taken_texts (past_of w'.history) v.number n ≡ taken_texts (past_of w.history) v.number n ++ texts (loads_in (past_of w'.history)) (collected (past_of e.learned.grown.before) v.number n + 1) (batch (past_of e.learned.grown.before) v.number n)
entered_texts P n v w w' s e =
    let b = v.number in
    let before : List Item = e.learned.grown.before in
    let old : List Output = taken (past_of w.history) b n in
    let new : List Output = batch (past_of before) b n in
    let loads : List Loaded = loads_in (past_of w'.history) in
    let count : 1 + length old ≡ collected (past_of before) b n + 1 = (let c = collected_is b n w w' s.knows.number e in omega (arith, c)) in
    ap (texts loads 1) (took_batch b n w w' s.knows.number e)
    ∙ texts-append loads 1 old new
    ∙ ap (λ (l : List ℕ). l ++ texts loads (1 + length old) new) (texts_later w.history w'.history b n s.knows.journal (knows_entered w (collect_given b n) w' e).begins)
    ∙ ap (λ (k : ℕ). taken_texts (past_of w.history) b n ++ texts loads k new) count

-- what is not there
pub not_some : {A : Type 0} (o : Option A) → is_some o ≡ false → o ≡ None
not_some None none = refl
not_some (Some x) none = absurd (cc)

take_prefix : {A : Type 0} → (k : ℕ) (l : List A) → IsPrefix (take k l) l
take_prefix k l = (drop k l, take-append-drop k l)

-- the loads that a batch names are with it
batch_named : (past : List Item) (by n : ℕ) (b : Batch) → IsBatch past by n b.from b.outputs b.loads → greatest_load b.outputs ≤ length b.loads
batch_named past by n b is =
    let less : greatest_load b.outputs ≤ length (loads_in past) = (let a = greatest_drop (collected past by n) (sent_to past n) in let c = is.named in let o = ap greatest_load is.outputs in omega (arith, a, c, o)) in
    let same : length b.loads ≡ greatest_load b.outputs = ap length is.loads ∙ length-take-le (greatest_load b.outputs) (loads_in past) less in
    omega (arith, same)

-- a batch that was collected can be written
pub writable : (n : ℕ) (w w' : Known Item) (b : Batch) → n ≢ 0 → TookBatch w n b w' → IsWritable b
writable n w w' b other t = record {
  first = (let e = t.batch.from in omega (arith, e));
  few = t.batch.few;
  named = batch_named (past_of t.entered.learned.grown.before) w.number n b t.batch;
  sendable = t.batch.sendable other;
}

-- a batch stands for its connection
pub took_own : (n : ℕ) (v w w' : Known Item) (b : Batch) (is : w.number ≡ v.number) → TookBatch w n b w'
    → (e : Entered w (collect_given v.number n) w') × IsBatch (past_of e.learned.grown.before) v.number n b.from b.outputs b.loads × (b.outputs ≢ [])
took_own n v w w' b is t = subst (λ (k : ℕ). (e : Entered w (collect_given k n) w') × IsBatch (past_of e.learned.grown.before) k n b.from b.outputs b.loads × (b.outputs ≢ [])) is (t.entered, t.batch, t.some)

-- its messages are those of the outputs that were taken
batch_texts : (n : ℕ) (v w w' : Known Item) (b : Batch) (e : Entered w (collect_given v.number n) w') → IsBatch (past_of e.learned.grown.before) v.number n b.from b.outputs b.loads → w.number ≡ v.number
    → texts (loads_in (past_of w'.history)) (collected (past_of e.learned.grown.before) v.number n + 1) (batch (past_of e.learned.grown.before) v.number n) ≡ texts b.loads b.from b.outputs
batch_texts n v w w' b e is own =
    let past = past_of e.learned.grown.before in
    let loads : List Loaded = loads_in (past_of w'.history) in
    let here : IsPrefix b.loads loads = subst (λ (l : List Loaded). IsPrefix l loads) (sym is.loads) (subst (λ (l : List Loaded). IsPrefix (take (greatest_load b.outputs) (loads_in past)) l) (sym (loads_same v.number n w w' own e)) (take_prefix (greatest_load b.outputs) (loads_in past))) in
    (λ i. texts loads (sym is.from i) (sym is.outputs i)) ∙ texts_prefix b.loads loads b.from b.outputs here (batch_named past v.number n b is)

-- with them what was taken is what had been taken, and the messages of the batch
pub batch_more : (P : List ℕ → Type 0) (n : ℕ) (v w w' : Known Item) (batch : Batch) → Writing false P n v w → (e : Entered w (collect_given v.number n) w') → IsBatch (past_of e.learned.grown.before) v.number n batch.from batch.outputs batch.loads
    → taken_texts (past_of w'.history) v.number n ≡ taken_texts (past_of w.history) v.number n ++ texts batch.loads batch.from batch.outputs
batch_more P n v w w' batch s e is = entered_texts P n v w w' s e ∙ ap (λ (l : List ℕ). taken_texts (past_of w.history) v.number n ++ l) (batch_texts n v w w' batch e is s.knows.number)

-- a batch was collected and written
pub batch_written : (a b c : Option (List ℕ)) (n : ℕ) (v w w' : Known Item) (batch : Batch) → Writing false (Got a b) n v w → TookBatch w n batch w' → Got b c (texts batch.loads batch.from batch.outputs) → Writing false (Got a c) n v w'
batch_written a b c n v w w' batch s t got =
    let own = took_own n v w w' batch s.knows.number t in
    writes_entered false (Got a b) (Got a c) n v w w' s own.0 (ap are_none (sym own.1.outputs) ∙ some_found batch.outputs own.2)
    (subst (Got a c) (sym (batch_more (Got a b) n v w w' batch s own.0 own.1))
    (Got-more a b c (taken_texts (past_of w.history) v.number n) (texts batch.loads batch.from batch.outputs) s.wrote got))

-- a batch was collected, and a prefix of it was written
pub batch_front : (a b c : Option (List ℕ)) (n : ℕ) (v w w' : Known Item) (batch : Batch) → Writing false (Got a b) n v w → TookBatch w n batch w' → GotFront b c (texts batch.loads batch.from batch.outputs) → Writing false (GotFront a c) n v w'
batch_front a b c n v w w' batch s t front =
    let own = took_own n v w w' batch s.knows.number t in
    writes_entered false (Got a b) (GotFront a c) n v w w' s own.0 (ap are_none (sym own.1.outputs) ∙ some_found batch.outputs own.2)
    (front_behind a b c (taken_texts (past_of w'.history) v.number n) (taken_texts (past_of w.history) v.number n) (texts batch.loads batch.from batch.outputs)
    (batch_more (Got a b) n v w w' batch s own.0 own.1) s.wrote front)

-- nothing is left for a connection
pub took_none : (n : ℕ) (v w w' : Known Item) (is : w.number ≡ v.number) → TookNothing w n w' → (e : Entered w (collect_given v.number n) w') × (batch (past_of e.learned.grown.before) v.number n ≡ [])
took_none n v w w' is t = subst (λ (k : ℕ). (e : Entered w (collect_given k n) w') × (batch (past_of e.learned.grown.before) k n ≡ [])) is (t.entered, t.none)

-- nothing was left, and the connection has gone
pub gone_written : (a b : Option (List ℕ)) (n : ℕ) (v w w' : Known Item) → Writing false (Got a b) n v w → TookNothing w n w' → Writing true (Got a b) n v w' × HasGone n v w'
gone_written a b n v w w' s t =
    let own = took_none n v w w' s.knows.number t in
    let loads : List Loaded = loads_in (past_of w'.history) in
    let none : texts loads (collected (past_of own.0.learned.grown.before) v.number n + 1) (batch (past_of own.0.learned.grown.before) v.number n) ≡ [] = ap (texts loads (collected (past_of own.0.learned.grown.before) v.number n + 1)) own.1 in
    let same = entered_texts (Got a b) n v w w' s own.0 ∙ ap (λ (l : List ℕ). taken_texts (past_of w.history) v.number n ++ l) none ∙ append-nil (taken_texts (past_of w.history) v.number n) in (
      writes_entered true (Got a b) (Got a b) n v w w' s own.0 (ap are_none own.1) (subst (Got a b) (sym same) s.wrote),
      record { all = took_all v.number n w w' s.knows.number own.0; departed = t.departed },
    )

-- a Collect was refused, and the lock has ended
pub refused_written : (limits : Limits) (a b : Option (List ℕ)) (n : ℕ) (v w x w' : Known Item) (r : CollectRefused) → Writing false (Got a b) n v w → CollectIsRefused limits w r x → Learned caller_of IsJournal x w' → Writing false (Got a b) n v w'
refused_written limits a b n v w x w' r s refused l = writes_learned false (Got a b) n v x w' (writes_learned false (Got a b) n v w x s (collect_learned limits w r x refused)) l

-- all that was written is a prefix of itself
pub writes_front : (gone : Bool) (a b : Option (List ℕ)) (n : ℕ) (v w : Known Item) → Writing gone (Got a b) n v w → Writing gone (GotFront a b) n v w
writes_front gone a b n v w s = record {
  knows = s.knows;
  collects = s.collects;
  did = s.did;
  finds = s.finds;
  wrote = front_of_got a b (taken_texts (past_of w.history) v.number n) (taken_texts (past_of w.history) v.number n) [] (sym (append-nil (taken_texts (past_of w.history) v.number n))) s.wrote;
}

-- before the first Collect
pub writes_nothing : (a : Option (List ℕ)) (n : ℕ) (v : Known Item) → NoneBy caller_of v.number v.history → IsJournal v.history → Writing false (Got a a) n v v
writes_nothing a n v none journal = record {
  knows = knows_self v journal;
  collects = 0;
  did = did_none v.number v.history none;
  finds = finds_none v.number n v.history none;
  wrote = subst (λ (os : List Output). Got a a (texts (loads_in (past_of v.history)) 1 os)) (sym (taken_none v.number n v.history none)) (Got-none a);
}
