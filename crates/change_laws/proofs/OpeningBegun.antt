-- An event begins a challenge exactly where its item opens it.
use Rattle.std.proofs.Common.{◌≡◌, ℕ, Bool, true, ◌&&◌, not, List, [], ◌∷◌, refl, ap, sym, ◌∙◌, Option, Some, None, is_some}
use Rattle.std.specs.Prelude.{if◌then◌else◌, filter}
use Rattle.std.specs.Option.{option_map_or}
use Rattle.pk_types.specs.declared.values.Subject.{Subject}
use Rattle.pk_types.specs.declared.values.Identity.{Identity}
use Rattle.entry_changes.specs.declared.change.ChallengeChange.{ChallengeChange}
use Rattle.authority_model.specs.declared.event.Call.{Call}
use Rattle.authority_model.specs.declared.event.Event.{Event}
use Rattle.authority_model.specs.declared.event.Event.TheVariants.{Call as Called, Returned, AgentError, Depart, Load}
use Rattle.authority_model.specs.declared.journal.Item.{Item}
use Rattle.authority_model.specs.declared.load.Loaded.{Loaded}
use Rattle.authority_model.specs.declared.pending.Pending.{Pending}
use Rattle.authority_model.specs.Words.{Bytes}
use Rattle.authority_model.specs.Peers.{live, is_root, may_for}
use Rattle.authority_model.specs.Subjects.{facts}
use Rattle.authority_model.specs.Agents.{agent_of, in_force}
use Rattle.authority_model.specs.Challenges.{Question, pending, opened, at_agent, with_id, pending_at}
use Rattle.authority_model.specs.Verdicts.{offers}
use Rattle.entry_changes.specs.Changes.{challenge_change, challenge_change_by, opening, close_one, close_all, closing_at, responding, where_known, is_own, is_between, stays_listed}
use Rattle.entry_changes.specs.Finding.{with_cookie}
use Rattle.authority_model.specs.Legal.{Follows}
use Rattle.authority_model.proofs.Cases.{by_test, by_option}
use Rattle.change_laws.proofs.Opening.{opened_is_opening, dead_opens, unasked_opens}

-- the challenge that a change begins
abbrev pub begun_by : ChallengeChange → Option Pending
begun_by (ChallengeChange.Begun row) = Some row
begun_by _ = None

-- a change that begins a challenge says which
pub begun_is : (change : ChallengeChange) (row : Pending) → begun_by change ≡ Some row → change ≡ ChallengeChange.Begun row
begun_is (ChallengeChange.Begun row') row e = cc
begun_is ChallengeChange.Keep row e = absurd (cc)
begun_is (ChallengeChange.Answer entry identity) row e = absurd (cc)
begun_is (ChallengeChange.Close entries) row e = absurd (cc)

-- the change begins nothing
abbrev BeginsNone : ChallengeChange → Type 0
BeginsNone change = None ≡ begun_by change

close_one_none : (o : Option Pending) → BeginsNone (option_map_or close_one o ChallengeChange.Keep)
close_one_none None = refl
close_one_none (Some ch) = refl

close_all_none : (chs : List Pending) → BeginsNone (close_all chs)
close_all_none [] = refl
close_all_none (ch ∷ chs) = refl

begin_some : (o : Option Pending) → o ≡ begun_by (option_map_or ChallengeChange.Begun o ChallengeChange.Keep)
begin_some None = refl
begin_some (Some ch) = refl

responding_none : (identity : Identity) (ch : Pending) → BeginsNone (responding identity ch)
responding_none identity ch = by_test BeginsNone (offers ch.identities identity && not (is_some ch.answered)) (ChallengeChange.Answer ch.entry identity) ChallengeChange.Keep (λ _. refl) (λ _. refl)

module _ (past : List Item) (c : ℕ) where
  unregister_none : (subject : Subject) (path : Bytes) → BeginsNone (where_known past c subject ChallengeChange.Keep (λ f. option_map_or (closing_at past c path f) (agent_of f.key (in_force past)) ChallengeChange.Keep))
  unregister_none subject path =
      by_option BeginsNone (λ f. if may_for past c f.uid then option_map_or (closing_at past c path f) (agent_of f.key (in_force past)) ChallengeChange.Keep else ChallengeChange.Keep) (facts past subject) ChallengeChange.Keep (λ _. refl) (λ f _.
      by_test BeginsNone (may_for past c f.uid) (option_map_or (closing_at past c path f) (agent_of f.key (in_force past)) ChallengeChange.Keep) ChallengeChange.Keep (λ _.
      by_option BeginsNone (closing_at past c path f) (agent_of f.key (in_force past)) ChallengeChange.Keep (λ _. refl) (λ a _.
      by_test BeginsNone (is_own c path a) (close_all (pending_at past c f.key)) ChallengeChange.Keep (λ _. close_all_none (pending_at past c f.key)) (λ _. refl))) (λ _. refl))

  respond_none : (cookie : Bytes) (identity : Identity) → BeginsNone (if is_root past c then option_map_or (responding identity) (with_cookie cookie (pending past)) ChallengeChange.Keep else ChallengeChange.Keep)
  respond_none cookie identity =
      by_test BeginsNone (is_root past c) (option_map_or (responding identity) (with_cookie cookie (pending past)) ChallengeChange.Keep) ChallengeChange.Keep (λ _.
      by_option BeginsNone (responding identity) (with_cookie cookie (pending past)) ChallengeChange.Keep (λ _. refl) (λ ch _. responding_none identity ch)) (λ _. refl)

  -- a change of a live connection alone
  live_none : (change : ChallengeChange) → BeginsNone change → BeginsNone (if live past c then change else ChallengeChange.Keep)
  live_none change none = by_test BeginsNone (live past c) change ChallengeChange.Keep (λ _. none) (λ _. refl)

module _ (past : List Item) (i : Item) (follows : Follows past i) where
  -- the change of an event begins what its item opens
  abbrev Begins : ChallengeChange → Type 0
  Begins change = opened past i ≡ begun_by change

  call_begins : (serial : ℕ) (quiet : Bool) (call : Call) → i.entry.event ≡ Called serial quiet call → live past i.entry.caller ≡ true → Begins (challenge_change_by past i.entry.caller i.entry.moment i.entry.salt serial quiet call)
  call_begins serial quiet (Call.Check subject action details flags cancel) event lives =
      let q : Question = record { serial = serial; quiet = quiet; subject = subject; action = action; cancel = cancel } in
      opened_is_opening past i follows q details flags event lives ∙ begin_some (opening past i.entry.caller i.entry.moment i.entry.salt q details flags)
  call_begins serial quiet (Call.Cancel id) event lives = unasked_opens past i _ event refl ∙ close_one_none (with_id past i.entry.caller id)
  call_begins serial quiet (Call.Unregister subject path) event lives = unasked_opens past i _ event refl ∙ unregister_none past i.entry.caller subject path
  call_begins serial quiet (Call.Respond cookie identity) event lives = unasked_opens past i _ event refl ∙ respond_none past i.entry.caller cookie identity
  call_begins serial quiet call event lives = unasked_opens past i _ event refl

  -- An item opens the challenge that the change of its event begins, and none where the change begins none.
  pub opened_is_begun : Begins (challenge_change past i.entry.caller i.entry.moment i.entry.salt i.entry.event i.loaded)
  opened_is_begun = of i.entry.event refl i.loaded
    where
      of : (e : Event) → i.entry.event ≡ e → (l : Option Loaded) → Begins (challenge_change past i.entry.caller i.entry.moment i.entry.salt e l)
      of (Called serial quiet call) event l = by_test Begins (live past i.entry.caller) (challenge_change_by past i.entry.caller i.entry.moment i.entry.salt serial quiet call) ChallengeChange.Keep (call_begins serial quiet call event) (dead_opens past i follows serial quiet call event)
      of (Returned s) event l = unasked_opens past i _ event refl ∙ live_none past i.entry.caller (option_map_or close_one (at_agent past i.entry.caller s) ChallengeChange.Keep) (close_one_none (at_agent past i.entry.caller s))
      of (AgentError s name) event l = unasked_opens past i _ event refl ∙ live_none past i.entry.caller (option_map_or close_one (at_agent past i.entry.caller s) ChallengeChange.Keep) (close_one_none (at_agent past i.entry.caller s))
      of Depart event l = unasked_opens past i _ event refl ∙ live_none past i.entry.caller (close_all (filter (is_between i.entry.caller) (pending past))) (close_all_none (filter (is_between i.entry.caller) (pending past)))
      of (Load load) event None = unasked_opens past i _ event refl
      of (Load load) event (Some l) = unasked_opens past i _ event refl ∙ close_all_none (filter (λ ch. not (stays_listed l.world ch)) (pending past))
      of e event l = unasked_opens past i _ event refl

  -- an event whose change begins a challenge opens it
  pub begun_opens : (row : Pending) → challenge_change past i.entry.caller i.entry.moment i.entry.salt i.entry.event i.loaded ≡ ChallengeChange.Begun row → opened past i ≡ Some row
  begun_opens row e = opened_is_begun ∙ ap begun_by e

  -- and one that opens a challenge begins it
  pub opens_begun : (row : Pending) → opened past i ≡ Some row → challenge_change past i.entry.caller i.entry.moment i.entry.salt i.entry.event i.loaded ≡ ChallengeChange.Begun row
  opens_begun row e = begun_is (challenge_change past i.entry.caller i.entry.moment i.entry.salt i.entry.event i.loaded) row (sym opened_is_begun ∙ e)
