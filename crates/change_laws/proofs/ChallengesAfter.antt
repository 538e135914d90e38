-- The law of challenges: the change of an event turns the pending challenges into those of the history with its item.
use Rattle.std.proofs.Common.{◌≡◌, ℕ, ◌<◌, ◌^◌, ◌==◌, Bool, true, false, List, ◌∷◌, ◌++◌, refl, ap, sym, ◌∙◌, Option, Some, None, length}
use Rattle.std.proofs.lemmas.List.{append-nil}
use Rattle.std.specs.Prelude.{if◌then◌else◌, filter, option_and_then, option_to_list}
use Rattle.std.specs.Option.{option_map_or}
use Rattle.pk_types.specs.declared.values.Pair.{Pair}
use Rattle.entry_changes.specs.declared.change.ChallengeChange.{ChallengeChange}
use Rattle.authority_model.specs.declared.event.Call.{Call}
use Rattle.authority_model.specs.declared.event.Event.{Event}
use Rattle.authority_model.specs.declared.event.Event.TheVariants.{Call as Called, Returned, AgentError, Depart, Load}
use Rattle.authority_model.specs.declared.journal.Item.{Item}
use Rattle.authority_model.specs.declared.load.Loaded.{Loaded}
use Rattle.authority_model.specs.declared.pending.Pending.{Pending}
use Rattle.authority_model.specs.Cookies.{cookie_text}
use Rattle.authority_model.specs.Peers.{live, call_in}
use Rattle.authority_model.specs.Challenges.{Question, pending, opened, closes, responds, at_agent}
use Rattle.authority_model.specs.Answers.{loads}
use Rattle.entry_changes.specs.Changes.{after_challenges, challenge_change, challenge_change_by, opening, close_one, close_all, is_between}
use Rattle.authority_model.specs.Legal.{Legal, Follows, IsNumbered}
use Rattle.authority_model.proofs.Cases.{by_test}
use Rattle.change_laws.proofs.ChallengeSteps.{pending_more, no_answer, idle_sides}
use Rattle.change_laws.proofs.ChallengeEnds.{After, IsPlain, closes_with, closes_none, dead_after, returned_after, error_after, departed_after, loaded_after, cancelled_after}
use Rattle.change_laws.proofs.ChallengeUnregister.{unregistered_after}
use Rattle.change_laws.proofs.ChallengeRespond.{responded_after}
use Rattle.change_laws.proofs.Opening.{opened_is_opening, dead_opens, unasked_opens}

-- a challenge that begins goes last
begun_last : (o : Option Pending) (items : List Pending) → after_challenges (option_map_or ChallengeChange.Begun o ChallengeChange.Keep) items ≡ items ++ option_to_list o
begun_last None items = sym (append-nil items)
begun_last (Some row) items = refl

module _ (past : List Item) (legal : Legal past) (i : Item) (follows : Follows past i) (short : length past < 2 ^ 63) where
  -- an event that is no call, and whose change keeps all
  kept_after : (e : Event) → i.entry.event ≡ e → i.loaded ≡ None → IsPlain e → ((ch : Pending) → closes past ch (record i { entry = record i.entry { event = e }; loaded = None }) ≡ false) → After past i ChallengeChange.Keep
  kept_after e event none plain closed = closes_none past i e None event none plain (λ ch h. closed ch)

  -- a check by a live connection
  checked_after : (q : Question) (details : List Pair) (flags : ℕ) → i.entry.event ≡ Called q.serial q.quiet (Call.Check q.subject q.action details flags q.cancel) → i.loaded ≡ None → live past i.entry.caller ≡ true
      → After past i (option_map_or ChallengeChange.Begun (opening past i.entry.caller i.entry.moment i.entry.salt q details flags) ChallengeChange.Keep)
  checked_after q details flags event none lives =
      begun_last (opening past i.entry.caller i.entry.moment i.entry.salt q details flags) (pending past)
      ∙ sym (pending_more past i (opening past i.entry.caller i.entry.moment i.entry.salt q details flags)
      (λ ch h. closes_with past ch i _ None event none ∙ idle_sides (i.entry.caller == ch.agent) (i.entry.caller == ch.asker))
      (λ ch. no_answer past i ch (answers ch))
      (opened_is_opening past i follows q details flags event lives))
    where
      answers : (ch : Pending) → option_and_then (responds (cookie_text ch.cookie) ch.identities) (call_in i.entry.event) ≡ None
      answers ch = ap (λ x. option_and_then (responds (cookie_text ch.cookie) ch.identities) (call_in x)) event

  -- a call by a live connection
  call_after : (serial : ℕ) (quiet : Bool) (call : Call) → i.entry.event ≡ Called serial quiet call → i.loaded ≡ None → live past i.entry.caller ≡ true → After past i (challenge_change_by past i.entry.caller i.entry.moment i.entry.salt serial quiet call)
  call_after serial quiet (Call.Check subject action details flags cancel) event none lives = checked_after (record { serial = serial; quiet = quiet; subject = subject; action = action; cancel = cancel }) details flags event none lives
  call_after serial quiet (Call.Cancel id) event none lives = cancelled_after past legal i serial quiet id event none
  call_after serial quiet (Call.Unregister subject path) event none lives = unregistered_after past legal i serial quiet subject path event none
  call_after serial quiet (Call.Respond cookie identity) event none lives = responded_after past legal i serial quiet cookie identity event none short lives
  call_after serial quiet call event none lives = kept_after (Called serial quiet call) event none (record { asks = refl; answers = λ ch. refl }) (λ ch. idle_sides (i.entry.caller == ch.agent) (i.entry.caller == ch.asker))

  -- The change of an event turns the pending challenges into those of the history with its item.
  pub challenges_after : after_challenges (challenge_change past i.entry.caller i.entry.moment i.entry.salt i.entry.event i.loaded) (pending past) ≡ pending (i ∷ past)
  challenges_after = of i.entry.event refl i.loaded refl follows.numbered
    where
      live_alone : (change : ChallengeChange) → i.loaded ≡ None → opened past i ≡ None → After past i change → After past i (if live past i.entry.caller then change else ChallengeChange.Keep)
      live_alone change none opens after = by_test (After past i) (live past i.entry.caller) change ChallengeChange.Keep (λ _. after) (λ dead. dead_after past legal i none dead opens)

      of : (e : Event) → i.entry.event ≡ e → (l : Option Loaded) → i.loaded ≡ l → IsNumbered (loads past) e l → After past i (challenge_change past i.entry.caller i.entry.moment i.entry.salt e l)
      of (Called serial quiet call) event None none n = by_test (After past i) (live past i.entry.caller) (challenge_change_by past i.entry.caller i.entry.moment i.entry.salt serial quiet call) ChallengeChange.Keep (call_after serial quiet call event none) (λ dead. dead_after past legal i none dead (dead_opens past i follows serial quiet call event dead))
      of (Returned s) event None none n = live_alone (option_map_or close_one (at_agent past i.entry.caller s) ChallengeChange.Keep) none (unasked_opens past i _ event refl) (returned_after past legal i s event none)
      of (AgentError s name) event None none n = live_alone (option_map_or close_one (at_agent past i.entry.caller s) ChallengeChange.Keep) none (unasked_opens past i _ event refl) (error_after past legal i s name event none)
      of Depart event None none n = live_alone (close_all (filter (is_between i.entry.caller) (pending past))) none (unasked_opens past i _ event refl) (departed_after past legal i event none)
      of (Load load) event (Some l) some n = loaded_after past legal i load l event some
      of (Load load) event None none n = absurd n
      of e event None none n = kept_after e event none (record { asks = refl; answers = λ ch. refl }) (λ ch. idle_sides (i.entry.caller == ch.agent) (i.entry.caller == ch.asker))
      of e event (Some l) some n = absurd (cc n)
