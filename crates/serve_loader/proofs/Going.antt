-- How far the loader's pass came, call by call.
use Rattle.std.proofs.Common.{◌≡◌, ◌≢◌, ℕ, suc, ◌≤◌, Bool, List, [], Option, Some, None, Result, Ok, Err, refl, ap, sym, ◌∙◌, subst, length, arith}
use Rattle.std.specs.Prelude.{OnOk, IfErr, IfNone, IfSome}
use Rattle.std.proofs.lemmas.List.{length-reverse}
use Rattle.history_lock.specs.Known.{Known}
use Rattle.history_lock.specs.Entries.{GrownByOthers}
use Rattle.history_lock.specs.Calls.{Learned}
use Rattle.history_lock.specs.declared.machine.EndCause.{EndCause}
use Rattle.history_lock.proofs.Prefixes.{prefix_length, prefix_self, prefix_trans}
use Rattle.history_lock.proofs.Growth.{grown_begin, others_begin}
use Rattle.pk_outside.specs.Trees.{TreeTold}
use Rattle.authority_core.specs.declared.collecting.Batch.{Batch}
use Rattle.authority_model.specs.declared.event.Event.{Event}
use Rattle.authority_model.specs.declared.journal.Item.{Item}
use Rattle.authority_model.specs.declared.journal.Limits.{Limits}
use Rattle.authority_model.specs.declared.load.Loaded.{Loaded}
use Rattle.authority_model.specs.declared.message.Output.{Output}
use Rattle.authority_model.specs.Given.{Given, event_given, load_given, next}
use Rattle.authority_model.specs.Peers.{uid_given, uid_of}
use Rattle.authority_model.specs.Sent.{batch}
use Rattle.authority_model.specs.Words.{Bytes}
use Rattle.authority_laws.specs.Batches.{collect_given}
use Rattle.policy_load.specs.declared.refused.LoadRefused.{LoadRefused}
use Rattle.shared_authority.specs.Journals.{IsJournal, caller_of, past_of}
use Rattle.shared_authority.specs.Passes.{Entered, Submitted, TookBatch, TookNothing}
use Rattle.connection_laws.proofs.Growing.{past_snoc}
use Rattle.serve_loader.specs.declared.ends.LoaderEnd.TheVariants.{Ended}
use Rattle.serve_loader.specs.Loads.{GoesOn, HasEnded, IsLoad, LoadsEnd, LoadsTo, Takes}
use Rattle.serve_loader.specs.Turns.{Standing, Turns, idle, loading_given, told_by}
use Rattle.serve_loader.proofs.Advancing.{Far, far_others, far_own, far_start, loading_to, never_departed, unconnected_own}

-- before its first call
pub loads_start : (P : Result Loaded LoadRefused → Type 0) (v : Known Item) → uid_of (past_of v.history) 0 ≡ None → LoadsTo P v v idle
loads_start P v fresh = record {
  number = refl;
  begins = prefix_self v.history;
  unconnected = fresh;
  loading = far_start P (length v.history) (past_of v.history) (omega (arith, length-reverse v.history));
}

-- another fact of what the loads gave
pub loads_to : (P Q : Result Loaded LoadRefused → Type 0) (v w : Known Item) (s : Standing) → ((gave : Result Loaded LoadRefused) → P gave → Q gave) → LoadsTo P v w s → LoadsTo Q v w s
loads_to P Q v w s to l = record {
  number = l.number;
  begins = l.begins;
  unconnected = l.unconnected;
  loading = loading_to P Q to (length v.history) (past_of w.history) s l.loading;
}

-- its pass learned of others' items
pub loads_learned : (P : Result Loaded LoadRefused → Type 0) (v w w' : Known Item) (s : Standing) → v.number ≡ 0 → LoadsTo P v w s → Learned caller_of IsJournal w w' → LoadsTo P v w' s
loads_learned P v w w' s zero l learned =
    let others = subst (λ (k : ℕ). GrownByOthers caller_of k w.history w'.history) (l.number ∙ zero) learned.others in
    let far = far_others P (length v.history) w.history w'.history s others (record { loading = l.loading; unconnected = l.unconnected }) in
    record {
      number = learned.number ∙ l.number;
      begins = prefix_trans v.history w.history w'.history l.begins (others_begin caller_of 0 w.history w'.history others);
      unconnected = far.unconnected;
      loading = far.loading;
    }

-- and of its own next one
loads_own : (P : Result Loaded LoadRefused → Type 0) (v w w' : Known Item) (g : Given) (t s : Standing) → v.number ≡ 0 → LoadsTo P v w t → (e : Entered w g w')
    → Turns P t.owed t.stop (past_of e.learned.grown.before) (next (past_of e.learned.grown.before) g) s → uid_given (next (past_of e.learned.grown.before) g).entry.event ≡ None → LoadsTo P v w' s
loads_own P v w w' g t s zero l e turn none =
    let grown = e.learned.grown in
    let before = grown.before in
    let others = subst (λ (k : ℕ). GrownByOthers caller_of k w.history before) (l.number ∙ zero) grown.others in
    let far = far_others P (length v.history) w.history before t others (record { loading = l.loading; unconnected = l.unconnected }) in
    let begins = prefix_trans v.history w.history before l.begins (others_begin caller_of 0 w.history before others) in
    let later : length v.history ≤ length (past_of before) = omega (arith, prefix_length v.history before begins, length-reverse before) in
    let item = e.item in
    let is = sym e.is_next in
    let own = far_own P (length v.history) (past_of before) item t s (grown.by ∙ (l.number ∙ zero)) later
    (subst (λ (i : Item). Turns P t.owed t.stop (past_of before) i s) is turn) (subst (λ (i : Item). uid_given i.entry.event ≡ None) is none) far in
    let here = subst (λ (l : List Item). Far P (length v.history) l s) (sym (ap past_of grown.grown ∙ past_snoc before item)) own in
    record {
      number = e.learned.number ∙ l.number;
      begins = prefix_trans v.history w.history w'.history l.begins (grown_begin caller_of w.history w'.history w.number item grown);
      unconnected = here.unconnected;
      loading = here.loading;
    }

-- it collected
pub loads_collect : (P : Result Loaded LoadRefused → Type 0) (v w w' : Known Item) (outputs : List Output) → v.number ≡ 0 → LoadsTo P v w idle → Takes w outputs w' → LoadsTo P v w' (told_by outputs)
loads_collect P v w w' outputs zero l takes =
    loads_own P v w w' (collect_given 0 0) idle (told_by outputs) zero l takes.entered
    (refl, refl, subst (λ (o : List Output). o ≢ []) takes.batch_is takes.some, ap told_by takes.batch_is) refl

-- a load connects nobody
connects_none : (past : List Item) (gave : Result Loaded LoadRefused) → uid_given (next past (loading_given gave)).entry.event ≡ None
connects_none past (Ok loaded) = refl
connects_none past (Err refused) = refl

-- it handed in what a load gave
pub loads_load : (P : Result Loaded LoadRefused → Type 0) (v w w' : Known Item) (gave : Result Loaded LoadRefused) (left : ℕ) (stop : Bool) → v.number ≡ 0 → LoadsTo P v w (record { owed = suc left; stop = stop }) → P gave → Entered w (loading_given gave) w' → LoadsTo P v w' (record { owed = left; stop = stop })
loads_load P v w w' gave left stop zero l p e =
    loads_own P v w w' (loading_given gave) (record { owed = suc left; stop = stop }) (record { owed = left; stop = stop }) zero l e
    (gave, p, refl, refl) (connects_none (past_of e.learned.grown.before) gave)

-- the lock was ended
pub loads_ended : (limits : Limits) (P : Result Loaded LoadRefused → Type 0) (v w w' : Known Item) (s : Standing) (cause : EndCause) → v.number ≡ 0 → LoadsTo P v w s → HasEnded limits w cause w' → LoadsEnd limits P v w' (Ended cause)
loads_ended limits P v w w' s cause zero l ended = record {
  standing = s;
  loads = loads_learned P v ended.refused w' s zero (loads_learned P v w ended.refused s zero l ended.first) ended.last;
  ends = ended.fits;
}

-- what a load gave was handed in, or the lock was ended
pub goes_on : (limits : Limits) (P : Result Loaded LoadRefused → Type 0) (v w w' : Known Item) (gave : Result Loaded LoadRefused) (left : ℕ) (stop : Bool) (r : Result (Unit {0}) EndCause)
    → v.number ≡ 0 → LoadsTo P v w (record { owed = suc left; stop = stop }) → P gave → OnOk r (Entered w (loading_given gave) w') → IfErr r (λ cause. HasEnded limits w cause w') → GoesOn limits P v (record { owed = left; stop = stop }) w' r
goes_on limits P v w w' gave left stop (Ok done) zero l p ok err = loads_load P v w w' gave left stop zero l p ok
goes_on limits P v w w' gave left stop (Err cause) zero l p ok err = loads_ended limits P v w w' (record { owed = suc left; stop = stop }) cause zero l err

-- a load stays one while the tree counts on
pub load_until : (told : Option TreeTold) (root : Bytes) (from until more : ℕ) → until ≤ more → (gave : Result Loaded LoadRefused) → IsLoad told root from until gave → IsLoad told root from more gave
load_until told root from until more le gave load = record { due = load.due; before = load.before; now = load.now; begins = load.begins; cause = load.cause; ends = omega (arith, load.ends, le) }

-- a batch was taken
pub takes_batch : (v w : Known Item) (b : Batch) → v.number ≡ 0 → TookBatch v 0 b w → Takes v b.outputs w
takes_batch v w b zero took =
    let At : ℕ → Type 0 = λ n. (e : Entered v (collect_given n 0) w) → b.outputs ≡ batch (past_of e.learned.grown.before) n 0 → Takes v b.outputs w in
    let here : At 0 = λ e is. record { entered = e; batch_is = is; some = took.some } in
    subst At (sym zero) here took.entered took.batch.outputs

-- others' items do not connect 0
unconnected_others : (h more : List Item) → GrownByOthers caller_of 0 h more → uid_of (past_of h) 0 ≡ None → uid_of (past_of more) 0 ≡ None
unconnected_others h more others fresh =
    let far : Far (λ gave. ⊥) (length h) (past_of h) idle = record { loading = far_start (λ gave. ⊥) (length h) (past_of h) (omega (arith, length-reverse h)); unconnected = fresh } in
    (far_others (λ gave. ⊥) (length h) h more idle others far).unconnected

pub unconnected_learned : (v w : Known Item) → v.number ≡ 0 → uid_of (past_of v.history) 0 ≡ None → Learned caller_of IsJournal v w → uid_of (past_of w.history) 0 ≡ None
unconnected_learned v w zero fresh learned = unconnected_others v.history w.history (subst (λ (k : ℕ). GrownByOthers caller_of k v.history w.history) zero learned.others) fresh

-- nor does an item of its own that is no Connect
pub unconnected_entered : (v w : Known Item) (g : Given) → v.number ≡ 0 → uid_of (past_of v.history) 0 ≡ None → (e : Entered v g w) → uid_given (next (past_of e.learned.grown.before) g).entry.event ≡ None → uid_of (past_of w.history) 0 ≡ None
unconnected_entered v w g zero fresh e none =
    let grown = e.learned.grown in
    let before = grown.before in
    let still = unconnected_others v.history before (subst (λ (k : ℕ). GrownByOthers caller_of k v.history before) zero grown.others) fresh in
    let own = unconnected_own (past_of before) e.item (ap (λ (i : Item). uid_given i.entry.event) e.is_next ∙ none) still in
    ap (λ (l : List Item). uid_of l 0) (ap past_of grown.grown ∙ past_snoc before e.item) ∙ own

pub unconnected_load : (v w : Known Item) (moment place : ℕ) (loaded : Loaded) → v.number ≡ 0 → uid_of (past_of v.history) 0 ≡ None → Submitted v (load_given v.number moment loaded) place w → uid_of (past_of w.history) 0 ≡ None
unconnected_load v w moment place loaded zero fresh s = unconnected_entered v w (load_given v.number moment loaded) zero fresh s.entered refl

-- connection 0, which never connected, is not gone
pub never_gone : (v w : Known Item) → v.number ≡ 0 → uid_of (past_of v.history) 0 ≡ None → TookNothing v 0 w → ⊥
never_gone v w zero fresh took =
    let here = unconnected_entered v w (collect_given v.number 0) zero fresh took.entered refl in
    let not_departed = never_departed (past_of w.history) 0 here in
    absurd (cc (not_departed, took.departed))

-- what was handed in by 0
pub entered_load : (v w : Known Item) (loaded : Loaded) (place : ℕ) → v.number ≡ 0 → Submitted v (load_given v.number 0 loaded) place w → Entered v (load_given 0 0 loaded) w
entered_load v w loaded place zero s = subst (λ (n : ℕ). Entered v (load_given n 0 loaded) w) zero s.entered

pub entered_event : (v w : Known Item) (event : Event) (place : ℕ) → v.number ≡ 0 → Submitted v (event_given v.number 0 0 event) place w → Entered v (event_given 0 0 0 event) w
entered_event v w event place zero s = subst (λ (n : ℕ). Entered v (event_given n 0 0 event) w) zero s.entered

-- what follows where there is nothing, and where there is something
pub on_none : {A : Type 0} {P Q : Type 0} (o : Option A) → (P → Q) → IfNone o P → IfNone o Q
on_none None f p = f p
on_none (Some x) f p = p

pub on_some : {A : Type 0} {P Q : A → Type 0} (o : Option A) → ((x : A) → P x → Q x) → IfSome o P → IfSome o Q
on_some None f p = p
on_some (Some x) f p = f x p
