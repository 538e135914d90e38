-- What is due after an entry: a load where it asks for one, and otherwise the next message.
use Rattle.std.proofs.Common.{◌≡◌, ◌==◌, ℕ, Bool, true, false, List, [], ◌∷◌, ◌++◌, refl, sym, subst}
use Rattle.std.specs.Prelude.{if◌then◌else◌, flat_map, map, ◌||◌}
use Rattle.authority_model.specs.declared.event.Event.TheVariants.{LoadFailed}
use Rattle.authority_model.specs.declared.journal.Item.{Item}
use Rattle.authority_model.specs.declared.load.Loaded.{Loaded}
use Rattle.authority_model.specs.declared.message.Answer.{Answer}
use Rattle.authority_model.specs.declared.message.Message.{Message}
use Rattle.authority_model.specs.declared.message.Output.{Output}
use Rattle.authority_model.specs.declared.pending.Pending.{Pending}
use Rattle.authority_model.specs.declared.verdict.Reason.{Reason}
use Rattle.authority_model.specs.declared.world.World.{World}
use Rattle.authority_model.specs.Verdicts.{no_by}
use Rattle.authority_model.specs.Answers.{answer_loaded, cancel_begin, changed, reply_agent_gone, reply_to}
use Rattle.authority_model.specs.Challenges.{pending}
use Rattle.authority_model.specs.Given.{load_given, event_given, next}
use Rattle.authority_model.specs.Lists.{any_of}
use Rattle.authority_model.specs.Peers.{live_connections}
use Rattle.authority_model.specs.Worlds.{lists_key}
use Rattle.pipe_run.specs.Handed.{is_load_wanted, wants_load, newest_wants_load, awaits_load, awaits_message}

-- none of these outputs asks for a load
abbrev AskNone : List Output → Type 0
AskNone outputs = any_of (λ o. is_load_wanted o.message) outputs ≡ false

ask_more : (a b : List Output) → AskNone a → AskNone b → AskNone (a ++ b)
ask_more [] b none_a none_b = none_b
ask_more (o ∷ a) b none_a none_b = of (is_load_wanted o.message) none_a (λ rest. ask_more a b rest none_b)
  where
    of : (t : Bool) → (t || any_of (λ o. is_load_wanted o.message) a) ≡ false → (AskNone a → AskNone (a ++ b)) → (t || any_of (λ o. is_load_wanted o.message) (a ++ b)) ≡ false
    of true e more = absurd (cc)
    of false e more = more e

ask_each : {A : Type 0} (f : A → List Output) → ((x : A) → AskNone (f x)) → (xs : List A) → AskNone (flat_map f xs)
ask_each f none [] = refl
ask_each f none (x ∷ xs) = ask_more (f x) (flat_map f xs) (none x) (ask_each f none xs)

reply_asks : (ch : Pending) (answer : Answer) → AskNone (reply_to ch answer)
reply_asks ch answer = of (ch.quiet || (ch.serial == 0))
  where
    of : (b : Bool) → AskNone (if b then [] else record { to = ch.asker; message = Message.Reply ch.serial answer } ∷ [])
    of true = refl
    of false = refl

changed_asks : (cs : List ℕ) → AskNone (map (λ c. record { to = c; message = Message.Changed }) cs)
changed_asks [] = refl
changed_asks (c ∷ cs) = changed_asks cs

loaded_asks : (world : World) (ch : Pending) → AskNone (answer_loaded world ch)
loaded_asks world ch = of (lists_key world ch.key) (lists_key world ch.agent_key)
  where
    gone : Answer
    gone = Answer.Verdict (no_by Reason.SubjectGone)

    of : (a b : Bool) → AskNone (if a then (if b then [] else reply_agent_gone ch) else reply_to ch gone ++ cancel_begin ch)
    of true true = refl
    of true false = reply_asks ch (Answer.Verdict (no_by Reason.AgentGone))
    of false b = ask_more (reply_to ch gone) (cancel_begin ch) (reply_asks ch gone) refl

load_asks : (past : List Item) (l : Loaded) → AskNone (flat_map (answer_loaded l.world) (pending past) ++ changed past)
load_asks past l = ask_more (flat_map (answer_loaded l.world) (pending past)) (changed past) (ask_each (answer_loaded l.world) (loaded_asks l.world) (pending past)) (changed_asks (live_connections past))

-- a load asks for no load
pub load_wants : (past : List Item) (caller moment : ℕ) (l : Loaded) → wants_load (next past (load_given caller moment l)) ≡ false
load_wants past caller moment l = load_asks past l

-- neither does one that failed
pub failed_wants : (past : List Item) (caller moment code : ℕ) → wants_load (next past (event_given caller moment 0 (LoadFailed code))) ≡ false
failed_wants past caller moment code = refl

-- behind an entry that asks for no load, in a history of others, a message is due
pub waits_then : (past past' : List Item) (i : Item) → past' ≡ i ∷ past → awaits_message past ≡ true → newest_wants_load past' ≡ false → awaits_message past' ≡ true
waits_then past past' i is waits none = subst (λ (p : List Item). newest_wants_load p ≡ false → awaits_message p ≡ true) (sym is) (of past waits) none
  where
    of : (past : List Item) → awaits_message past ≡ true → wants_load i ≡ false → awaits_message (i ∷ past) ≡ true
    of [] w n = absurd (cc)
    of (j ∷ past) w n = rw n refl

pub loads_then : (past past' : List Item) (i : Item) → past' ≡ i ∷ past → awaits_message past ≡ true → newest_wants_load past' ≡ true → awaits_load past' ≡ true
loads_then past past' i is waits some = subst (λ (p : List Item). newest_wants_load p ≡ true → awaits_load p ≡ true) (sym is) (of past waits) some
  where
    of : (past : List Item) → awaits_message past ≡ true → wants_load i ≡ true → awaits_load (i ∷ past) ≡ true
    of [] w n = absurd (cc)
    of (j ∷ past) w n = n

-- behind a load that was asked for, a message is due
pub waits_after : (past past' : List Item) (i : Item) → past' ≡ i ∷ past → awaits_load past ≡ true → wants_load i ≡ false → awaits_message past' ≡ true
waits_after past past' i is waits none = subst (λ (p : List Item). awaits_message p ≡ true) (sym is) (of past waits)
  where
    of : (past : List Item) → awaits_load past ≡ true → awaits_message (i ∷ past) ≡ true
    of [] w = absurd (cc)
    of (j ∷ past) w = rw none refl
