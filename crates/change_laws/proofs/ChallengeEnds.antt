-- The pending challenges after an event that closes challenges, or that leaves them all.
use Rattle.std.proofs.Common.{◌≡◌, ℕ, ◌==◌, Bool, true, false, ◌&&◌, ◌||◌, not, List, ◌∷◌, refl, ap, sym, ◌∙◌, Option, Some, None}
use Rattle.std.proofs.lemmas.Bool.{false_from_ne_true, and_from, not-true}
use Rattle.std.proofs.lemmas.Bool.Decides.{Decides-eqb}
use Rattle.std.proofs.lemmas.Slice.Eq.{bytes_eq-Decides}
use Rattle.std.specs.Prelude.{if◌then◌else◌, filter, find, option_and_then, bytes_eq}
use Rattle.std.specs.Option.{option_map_or}
use Rattle.pk_types.specs.Decimals.{is_empty}
use Rattle.entry_changes.specs.declared.change.ChallengeChange.{ChallengeChange}
use Rattle.authority_model.specs.declared.event.Call.{Call}
use Rattle.authority_model.specs.declared.event.Event.{Event}
use Rattle.authority_model.specs.declared.event.Event.TheVariants.{Call as Called, Returned, AgentError, Depart, Load}
use Rattle.authority_model.specs.declared.journal.Item.{Item}
use Rattle.authority_model.specs.declared.load.Loaded.{Loaded}
use Rattle.authority_model.specs.declared.pending.Pending.{Pending}
use Rattle.authority_model.specs.Words.{Bytes}
use Rattle.authority_model.specs.Lists.{Has}
use Rattle.authority_model.specs.Cookies.{cookie_text}
use Rattle.authority_model.specs.Worlds.{lists_key}
use Rattle.authority_model.specs.Peers.{live, call_in, is_by}
use Rattle.authority_model.specs.Challenges.{pending, opened, closes, question_in, responds, serial_ended, at_agent, with_id}
use Rattle.entry_changes.specs.Finding.{is_sent, has_id}
use Rattle.entry_changes.specs.Changes.{after_challenges, close_one, close_all, is_between, stays_listed}
use Rattle.authority_model.specs.Legal.{Legal}
use Rattle.authority_model.proofs.Cases.{both}
use Rattle.authority_laws.proofs.LiveAgents.{pending_live}
use Rattle.authority_laws.proofs.OnePending.{one_serial, one_cancel}
use Rattle.change_laws.proofs.ChallengeLists.{closed_all, closed_found, same_test, swap_equal}
use Rattle.change_laws.proofs.ChallengeEntries.{one_each}
use Rattle.change_laws.proofs.ChallengeSteps.{no_answer, dead_answer, pending_left, pending_same, not_live_one, dead_sides, reply_sides, depart_sides, cancel_sides, load_sides}
use Rattle.change_laws.proofs.Opening.{unasked_opens}

-- an item with this event and load
abbrev pub with_event : Item → Event → Option Loaded → Item
with_event i e l = record i { entry = record i.entry { event = e }; loaded = l }

-- what an item closes, by its event and load
pub closes_with : (past : List Item) (ch : Pending) (i : Item) (e : Event) (l : Option Loaded) → i.entry.event ≡ e → i.loaded ≡ l → closes past ch i ≡ closes past ch (with_event i e l)
closes_with past ch i e l event loaded = ap (λ x. closes past ch (with_event i x i.loaded)) event ∙ ap (λ x. closes past ch (with_event i e x)) loaded

-- a change makes of the pending challenges those after the item
abbrev pub After : List Item → Item → ChallengeChange → Type 0
After past i change = after_challenges change (pending past) ≡ pending (i ∷ past)

-- an event asks and answers nothing
pub record IsPlain (e : Event) : Type 0 where
  pub asks : question_in e ≡ None
  pub answers : (ch : Pending) → option_and_then (responds (cookie_text ch.cookie) ch.identities) (call_in e) ≡ None

-- what is left by an event that asks and answers nothing
plain_left : (past : List Item) (i : Item) (e : Event) (l : Option Loaded) → i.entry.event ≡ e → i.loaded ≡ l → IsPlain e → (test : Pending → Bool)
    → ((ch : Pending) → Has (pending past) ch → closes past ch (with_event i e l) ≡ test ch) → pending (i ∷ past) ≡ filter (λ ch. not (test ch)) (pending past)
plain_left past i e l event loaded plain test closed =
    pending_left past i test (λ ch h. closes_with past ch i e l event loaded ∙ closed ch h)
    (λ ch. no_answer past i ch (ap (λ x. option_and_then (responds (cookie_text ch.cookie) ch.identities) (call_in x)) event ∙ plain.answers ch))
    (unasked_opens past i e event plain.asks)

-- an event that closes those that pass a test
pub closes_all : (past : List Item) → Legal past → (i : Item) (e : Event) (l : Option Loaded) → i.entry.event ≡ e → i.loaded ≡ l → IsPlain e → (test : Pending → Bool)
    → ((ch : Pending) → Has (pending past) ch → closes past ch (with_event i e l) ≡ test ch) → After past i (close_all (filter test (pending past)))
closes_all past legal i e l event loaded plain test closed = closed_all test (pending past) (one_each past legal) ∙ sym (plain_left past i e l event loaded plain test closed)

-- an event that closes none
pub closes_none : (past : List Item) (i : Item) (e : Event) (l : Option Loaded) → i.entry.event ≡ e → i.loaded ≡ l → IsPlain e
    → ((ch : Pending) → Has (pending past) ch → closes past ch (with_event i e l) ≡ false) → After past i ChallengeChange.Keep
closes_none past i e l event loaded plain closed = sym (
    pending_same past i (λ ch h. closes_with past ch i e l event loaded ∙ closed ch h)
    (λ ch. no_answer past i ch (ap (λ x. option_and_then (responds (cookie_text ch.cookie) ch.identities) (call_in x)) event ∙ plain.answers ch))
    (unasked_opens past i e event plain.asks))

-- an event of a connection that is not live, other than a load
pub dead_after : (past : List Item) → Legal past → (i : Item) → i.loaded ≡ None → live past i.entry.caller ≡ false → opened past i ≡ None → After past i ChallengeChange.Keep
dead_after past legal i none dead opens = sym (pending_same past i closed (λ ch. dead_answer past i ch dead) opens)
  where
    closed : (ch : Pending) → Has (pending past) ch → closes past ch i ≡ false
    closed ch h =
        let sides = pending_live past legal ch h in
        closes_with past ch i i.entry.event None refl none
        ∙ dead_sides (i.entry.caller == ch.agent) (i.entry.caller == ch.asker) _ _ _ _ (not_live_one past i.entry.caller ch.agent dead sides.1) (not_live_one past i.entry.caller ch.asker dead sides.0)

-- a return, or an agent's error, that replies to a serial
replied_after : (past : List Item) → Legal past → (i : Item) (e : Event) (s : ℕ) → i.entry.event ≡ e → i.loaded ≡ None → IsPlain e → serial_ended e ≡ Some s
    → ((ch : Pending) → closes past ch (with_event i e None) ≡ (is_by ch.agent i && option_map_or (λ n. n == ch.agent_serial) (serial_ended e) false)) → After past i (option_map_or close_one (at_agent past i.entry.caller s) ChallengeChange.Keep)
replied_after past legal i e s event none plain serial closed =
    ap (λ x. after_challenges x (pending past)) (closed_found (is_sent i.entry.caller s) (pending past) (one_serial past legal i.entry.caller s))
    ∙ closes_all past legal i e None event none plain (is_sent i.entry.caller s) (λ ch h.
    closed ch
    ∙ ap (λ o. is_by ch.agent i && option_map_or (λ n. n == ch.agent_serial) o false) serial
    ∙ ap (λ b. b && (s == ch.agent_serial)) (swap_equal i.entry.caller ch.agent)
    ∙ ap (λ b. (ch.agent == i.entry.caller) && b) (swap_equal s ch.agent_serial))

-- a return closes the challenge that it replies to
pub returned_after : (past : List Item) → Legal past → (i : Item) (s : ℕ) → i.entry.event ≡ Returned s → i.loaded ≡ None → After past i (option_map_or close_one (at_agent past i.entry.caller s) ChallengeChange.Keep)
returned_after past legal i s event none = replied_after past legal i (Returned s) s event none (record { asks = refl; answers = λ ch. refl }) refl (λ ch. reply_sides (i.entry.caller == ch.agent) (i.entry.caller == ch.asker) (s == ch.agent_serial))

-- so does an agent's error
pub error_after : (past : List Item) → Legal past → (i : Item) (s : ℕ) (name : Bytes) → i.entry.event ≡ AgentError s name → i.loaded ≡ None → After past i (option_map_or close_one (at_agent past i.entry.caller s) ChallengeChange.Keep)
error_after past legal i s name event none = replied_after past legal i (AgentError s name) s event none (record { asks = refl; answers = λ ch. refl }) refl (λ ch. reply_sides (i.entry.caller == ch.agent) (i.entry.caller == ch.asker) (s == ch.agent_serial))

-- a departure closes the challenges of which the connection is a side
pub departed_after : (past : List Item) → Legal past → (i : Item) → i.entry.event ≡ Depart → i.loaded ≡ None → After past i (close_all (filter (is_between i.entry.caller) (pending past)))
departed_after past legal i event none = closes_all past legal i Depart None event none (record { asks = refl; answers = λ ch. refl }) (is_between i.entry.caller) (λ ch h.
    depart_sides (i.entry.caller == ch.agent) (i.entry.caller == ch.asker)
    ∙ ap (λ b. b || (i.entry.caller == ch.agent)) (swap_equal i.entry.caller ch.asker)
    ∙ ap (λ b. (ch.asker == i.entry.caller) || b) (swap_equal i.entry.caller ch.agent))

-- a load closes the challenges of which it does not list both keys
pub loaded_after : (past : List Item) → Legal past → (i : Item) (load : ℕ) (l : Loaded) → i.entry.event ≡ Load load → i.loaded ≡ Some l → After past i (close_all (filter (λ ch. not (stays_listed l.world ch)) (pending past)))
loaded_after past legal i load l event some = closes_all past legal i (Load load) (Some l) event some (record { asks = refl; answers = λ ch. refl }) (λ ch. not (stays_listed l.world ch)) (λ ch h.
    load_sides (i.entry.caller == ch.agent) (i.entry.caller == ch.asker) (lists_key l.world ch.key) (lists_key l.world ch.agent_key))

-- a Cancel closes the challenge of the caller that has the id
pub cancelled_after : (past : List Item) → Legal past → (i : Item) (serial : ℕ) (quiet : Bool) (id : Bytes) → i.entry.event ≡ Called serial quiet (Call.Cancel id) → i.loaded ≡ None → After past i (option_map_or close_one (with_id past i.entry.caller id) ChallengeChange.Keep)
cancelled_after past legal i serial quiet id event none = by (is_empty id) refl
  where
    plain : IsPlain (Called serial quiet (Call.Cancel id))
    plain = record { asks = refl; answers = λ ch. refl }

    closed : (ch : Pending) → closes past ch (with_event i (Called serial quiet (Call.Cancel id)) None) ≡ ((i.entry.caller == ch.asker) && (not (is_empty ch.cancel) && bytes_eq ch.cancel id))
    closed ch = cancel_sides (i.entry.caller == ch.agent) (i.entry.caller == ch.asker) (not (is_empty ch.cancel) && bytes_eq ch.cancel id)

    parts : (ch : Pending) → ((i.entry.caller == ch.asker) && (not (is_empty ch.cancel) && bytes_eq ch.cancel id)) ≡ true → (i.entry.caller ≡ ch.asker) × (is_empty id ≡ false) × (bytes_eq ch.cancel id ≡ true)
    parts ch t =
        let outer = both (i.entry.caller == ch.asker) (not (is_empty ch.cancel) && bytes_eq ch.cancel id) t in
        let inner = both (not (is_empty ch.cancel)) (bytes_eq ch.cancel id) outer.1 in
        let same : ch.cancel ≡ id = (bytes_eq-Decides ch.cancel id).0 inner.1 in
        ((Decides-eqb i.entry.caller ch.asker).0 outer.0, not-true (is_empty id) (ap (λ x. not (is_empty x)) (sym same) ∙ inner.0), inner.1)

    by : (b : Bool) → is_empty id ≡ b → After past i (option_map_or close_one (if b then None else find (has_id i.entry.caller id) (pending past)) ChallengeChange.Keep)
    by true is = closes_none past i (Called serial quiet (Call.Cancel id)) None event none plain (λ ch h. closed ch ∙ false_from_ne_true ((i.entry.caller == ch.asker) && (not (is_empty ch.cancel) && bytes_eq ch.cancel id)) (λ t. absurd (cc (is, (parts ch t).1))))
    by false is =
        ap (λ x. after_challenges x (pending past)) (closed_found (has_id i.entry.caller id) (pending past) (one_cancel past legal i.entry.caller id is))
        ∙ closes_all past legal i (Called serial quiet (Call.Cancel id)) None event none plain (has_id i.entry.caller id) (λ ch h. closed ch ∙ same_test ((i.entry.caller == ch.asker) && (not (is_empty ch.cancel) && bytes_eq ch.cancel id)) (has_id i.entry.caller id ch) (forth ch) (back ch))
      where
        forth : (ch : Pending) → ((i.entry.caller == ch.asker) && (not (is_empty ch.cancel) && bytes_eq ch.cancel id)) ≡ true → has_id i.entry.caller id ch ≡ true
        forth ch t = let p = parts ch t in and_from (ch.asker == i.entry.caller) (bytes_eq ch.cancel id) ((Decides-eqb ch.asker i.entry.caller).1 (sym p.0)) p.2

        back : (ch : Pending) → has_id i.entry.caller id ch ≡ true → ((i.entry.caller == ch.asker) && (not (is_empty ch.cancel) && bytes_eq ch.cancel id)) ≡ true
        back ch t =
            let p = both (ch.asker == i.entry.caller) (bytes_eq ch.cancel id) t in
            let same : ch.cancel ≡ id = (bytes_eq-Decides ch.cancel id).0 p.1 in
            and_from (i.entry.caller == ch.asker) (not (is_empty ch.cancel) && bytes_eq ch.cancel id) ((Decides-eqb i.entry.caller ch.asker).1 (sym ((Decides-eqb ch.asker i.entry.caller).0 p.0)))
            (and_from (not (is_empty ch.cancel)) (bytes_eq ch.cancel id) (ap (λ x. not (is_empty x)) same ∙ ap not is) p.1)
