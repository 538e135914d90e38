-- What the lock says of a call, as what was handed in.
use Rattle.std.proofs.Common.{◌≡◌, ◌≢◌, ℕ, ◌<◌, ◌≤◌, Bool, true, false, ◌||◌, List, [], ◌∷◌, Some, refl, sym, ap, ◌∙◌, subst, length, arith}
use Rattle.std.specs.Prelude.{IsSome, nat_lt}
use Rattle.std.proofs.lemmas.Bool.Decides.{nat_tests}
use Rattle.std.proofs.lemmas.List.{length-drop, reverse-append}
use Rattle.authority_core.specs.declared.collecting.Batch.{Batch}
use Rattle.authority_model.specs.Items.{loaded_of, sent}
use Rattle.authority_model.specs.Peers.{departed}
use Rattle.authority_model.specs.Sent.{sent_to, collected, batch}
use Rattle.authority_laws.proofs.Batching.{sent_counted}
use Rattle.authority_laws.proofs.Sending.{stays_departed}
use Rattle.shared_authority.specs.declared.collecting.Collected.{Collected}
use Rattle.shared_authority.specs.declared.collecting.Collected.TheVariants as collected_as
use Rattle.history_lock.specs.Known.{Known}
use Rattle.history_lock.specs.Calls.{Answered}
use Rattle.authority_model.specs.declared.event.Event.{Event}
use Rattle.authority_model.specs.declared.journal.Item.{Item}
use Rattle.authority_model.specs.declared.journal.Limits.{Limits}
use Rattle.authority_model.specs.declared.load.Loaded.{Loaded}
use Rattle.authority_model.specs.Given.{event_given, load_given}
use Rattle.shared_authority.specs.declared.operation.Op.{Op}
use Rattle.shared_authority.specs.declared.operation.Op.TheVariants.{Step, Load, Unlist, Collect}
use Rattle.shared_authority.specs.declared.operation.Reply.{Reply}
use Rattle.shared_authority.specs.declared.operation.Reply.TheVariants.{At, Batch as Batched}
use Rattle.shared_authority.specs.Journals.{IsJournal, caller_of, past_of}
use Rattle.shared_authority.specs.Machines.{IsReady, Gives, GivesWithin, batch_in, place_in}
use Rattle.shared_authority.specs.Passes.{Collects, HadRoom, Submitted, Tells, TookBatch, TookNothing, Unlisted}

-- the reply to an event has a place
pub step_placed : (n moment salt : ℕ) (event : Event) (list : List Item) (i : Item) (reply : Reply) → Gives n (Step moment salt event) list i reply → IsSome (place_in reply)
step_placed n moment salt event list i (At place) given = refl
step_placed n moment salt event list i (Batched b) given = absurd given

-- the reply to a load has a place
pub load_placed : (n moment : ℕ) (loaded : Loaded) (list : List Item) (i : Item) (reply : Reply) → Gives n (Load moment loaded) list i reply → IsSome (place_in reply)
load_placed n moment loaded list i (At place) given = refl
load_placed n moment loaded list i (Batched b) given = absurd given

-- the reply to an Unlist has a place
pub unlist_placed : (n moment pid start : ℕ) (list : List Item) (i : Item) (reply : Reply) → Gives n (Unlist moment pid start) list i reply → IsSome (place_in reply)
unlist_placed n moment pid start list i (At place) given = refl
unlist_placed n moment pid start list i (Batched b) given = absurd given

-- an event was entered
pub submitted : (limits : Limits) (v w : Known Item) (moment salt place : ℕ) (event : Event) (reply : Reply) → place_in reply ≡ Some place → Answered caller_of IsJournal IsReady (GivesWithin limits) v (Step moment salt event) reply w → Submitted v (event_given v.number moment salt event) place w
submitted limits v w moment salt place event (At at) is answered = record { entered = record { item = answered.entry; learned = answered.learned; is_next = answered.given.gives.0 }; place_is = (let same : at ≡ place = cc in sym same) ∙ answered.given.gives.1 }
submitted limits v w moment salt place event (Batched b) is answered = absurd answered.given.gives

-- a load was entered
pub submitted_load : (limits : Limits) (v w : Known Item) (moment place : ℕ) (loaded : Loaded) (reply : Reply) → place_in reply ≡ Some place → Answered caller_of IsJournal IsReady (GivesWithin limits) v (Load moment loaded) reply w → Submitted v (load_given v.number moment loaded) place w
submitted_load limits v w moment place loaded (At at) is answered = record { entered = record { item = answered.entry; learned = answered.learned; is_next = answered.given.gives.0 }; place_is = (let same : at ≡ place = cc in sym same) ∙ answered.given.gives.1 }
submitted_load limits v w moment place loaded (Batched b) is answered = absurd answered.given.gives

-- a load without a process was entered
pub was_unlisted : (limits : Limits) (v w : Known Item) (moment pid start place : ℕ) (reply : Reply) → place_in reply ≡ Some place → Answered caller_of IsJournal IsReady (GivesWithin limits) v (Unlist moment pid start) reply w → Unlisted v moment pid start place w
was_unlisted limits v w moment pid start place (At at) is answered = record {
  loaded = loaded_of (past_of answered.learned.grown.before);
  submitted = record { entered = record { item = answered.entry; learned = answered.learned; is_next = answered.given.gives.0 }; place_is = (let same : at ≡ place = cc in sym same) ∙ answered.given.gives.1 };
  loaded_is = refl;
  listed = answered.given.gives.2;
}
was_unlisted limits v w moment pid start place (Batched b) is answered = absurd answered.given.gives

-- the reply to a Collect has a batch
pub collect_batched : (n of : ℕ) (list : List Item) (i : Item) (reply : Reply) → Gives n (Collect of) list i reply → IsSome (batch_in reply)
collect_batched n of list i (Batched b) given = refl
collect_batched n of list i (At place) given = absurd given

-- a caller that may collect and is left nothing is told of a departed connection
departs : (k s : ℕ) (gone : Bool) → s ≤ k → (nat_lt k s || gone) ≡ true → gone ≡ true
departs k s true le ready = refl
departs k s false le ready = let less : nat_lt k s ≡ true = of (nat_lt k s) ready in let fewer : k < s = grind (arith, nat_tests) in absurd (omega (arith, fewer, le))
  where
    of : (b : Bool) → (b || false) ≡ true → b ≡ true
    of true e = refl
    of false e = absurd (cc)

-- all was collected where nothing is left
all_collected : (past : List Item) (by c : ℕ) → batch past by c ≡ [] → sent past c ≤ collected past by c
all_collected past by c none =
    let size = sym (length-drop (collected past by c) (sent_to past c)) ∙ ap length none in
    let count = sent_counted past c in
    omega (arith, size, count)

-- a connection that departed has departed after one more item
still_departed : (past : List Item) (i : Item) (c : ℕ) → departed past c ≡ true → departed (i ∷ past) c ≡ true
still_departed past i c gone = stays_departed (i ∷ []) past c gone

-- some outputs were collected
pub took_batch : (limits : Limits) (v w : Known Item) (of : ℕ) (b : Batch) → Answered caller_of IsJournal IsReady (GivesWithin limits) v (Collect of) (Batched b) w → b.outputs ≢ [] → TookBatch v of b w
took_batch limits v w of b answered some = record { entered = record { item = answered.entry; learned = answered.learned; is_next = answered.given.gives.0 }; batch = answered.given.gives.1; some = some }

-- nothing is left
pub took_nothing : (limits : Limits) (v w : Known Item) (of : ℕ) (b : Batch) → Answered caller_of IsJournal IsReady (GivesWithin limits) v (Collect of) (Batched b) w → b.outputs ≡ [] → TookNothing v of w
took_nothing limits v w of b answered none =
    let past = past_of answered.learned.grown.before in
    let nothing : batch past v.number of ≡ [] = sym answered.given.gives.1.outputs ∙ none in
    let gone : departed past of ≡ true = departs (collected past v.number of) (sent past of) (departed past of) (all_collected past v.number of nothing) answered.ready in
    record {
      entered = record { item = answered.entry; learned = answered.learned; is_next = answered.given.gives.0 };
      none = nothing;
      named = answered.given.gives.1.named;
      departed = subst (λ (l : List Item). departed l of ≡ true) (sym (ap past_of answered.learned.grown.grown ∙ reverse-append answered.learned.grown.before (answered.entry ∷ []))) (still_departed past answered.entry of gone);
    }

-- what was collected is told
pub collects : (limits : Limits) (v w : Known Item) (of : ℕ) (reply : Reply) (b : Batch) (told : Collected) → batch_in reply ≡ Some b → Answered caller_of IsJournal IsReady (GivesWithin limits) v (Collect of) reply w → Tells b told → Collects v of told w
collects limits v w of (Batched b') b told is answered tells = go told (subst (λ (x : Batch). Tells x told) (let same : b ≡ b' = cc in same) tells)
  where
    go : (told : Collected) → Tells b' told → Collects v of told w
    go (collected_as.Batch c) t = subst (λ (x : Batch). TookBatch v of x w) (sym t.0) (took_batch limits v w of b' answered t.1)
    go collected_as.Gone t = took_nothing limits v w of b' answered t
collects limits v w of (At place) b told is answered tells = absurd answered.given.gives

-- what a call entered came where the journal had room
pub had_room : (limits : Limits) (v w : Known Item) (op : Op) (reply : Reply) → Answered caller_of IsJournal IsReady (GivesWithin limits) v op reply w → HadRoom limits w.history
had_room limits v w op reply answered = record { before = answered.learned.grown.before; item = answered.entry; last = answered.learned.grown.grown; room = answered.given.room }
