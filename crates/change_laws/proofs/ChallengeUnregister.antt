-- The pending challenges after an Unregister.
use Rattle.std.proofs.Common.{◌≡◌, ℕ, ◌==◌, Bool, true, false, ◌&&◌, List, refl, ap, sym, ◌∙◌, Option, Some, None}
use Rattle.std.proofs.lemmas.Bool.{false_from_ne_true, and_from, and_right}
use Rattle.std.proofs.lemmas.Bool.Decides.{Decides-eqb}
use Rattle.std.proofs.lemmas.Slice.Eq.{bytes_eq-Decides}
use Rattle.std.specs.Prelude.{if◌then◌else◌, bytes_eq, option_map}
use Rattle.std.specs.Option.{option_map_or}
use Rattle.pk_types.specs.declared.values.Subject.{Subject}
use Rattle.entry_changes.specs.declared.change.ChallengeChange.{ChallengeChange}
use Rattle.authority_model.specs.declared.event.Call.{Call}
use Rattle.authority_model.specs.declared.event.Event.TheVariants.{Call as Called}
use Rattle.authority_model.specs.declared.journal.Item.{Item}
use Rattle.authority_model.specs.declared.key.Key.{Key}
use Rattle.authority_model.specs.declared.pending.Agent.{Agent}
use Rattle.authority_model.specs.declared.pending.Pending.{Pending}
use Rattle.authority_model.specs.Words.{Bytes}
use Rattle.authority_model.specs.Lists.{Has}
use Rattle.authority_model.specs.Keys.{same_key, uid_of_key}
use Rattle.authority_model.specs.Facts.{Facts}
use Rattle.authority_model.specs.Peers.{may_for}
use Rattle.authority_model.specs.Subjects.{facts, key_of}
use Rattle.authority_model.specs.Agents.{agent_of, in_force}
use Rattle.authority_model.specs.Challenges.{pending, closes, pending_at}
use Rattle.entry_changes.specs.Changes.{where_known, is_own, close_all, closing_at}
use Rattle.authority_model.specs.Legal.{Legal}
use Rattle.authority_model.proofs.Cases.{both, by_test, by_option}
use Rattle.authority_laws.proofs.AgentsBack.{facts_uid, same_key_refl}
use Rattle.authority_laws.proofs.AgentSteps.{same_key_is, one_agent}
use Rattle.authority_laws.proofs.OnlyOne.{find_only, none_passes}
use Rattle.change_laws.proofs.ChallengeLists.{same_test}
use Rattle.change_laws.proofs.AgentRights.{agents_may}
use Rattle.change_laws.proofs.ChallengeAgents.{pending_agent}
use Rattle.change_laws.proofs.ChallengeSteps.{unregister_sides}
use Rattle.change_laws.proofs.ChallengeEnds.{with_event, After, IsPlain, closes_all, closes_none}

-- keys that are one test as one
same_key_from : (a b : Key) → a ≡ b → same_key a b ≡ true
same_key_from a b e = ap (λ k. same_key a k) (sym e) ∙ same_key_refl a

module _ (past : List Item) (legal : Legal past) (i : Item) (serial : ℕ) (quiet : Bool) (subject : Subject) (path : Bytes) (event : i.entry.event ≡ Called serial quiet (Call.Unregister subject path)) (none : i.loaded ≡ None) where
  -- whether the caller is the agent of a challenge, which has this path and key
  abbrev is_at : Facts → Pending → Bool
  is_at f ch = (i.entry.caller == ch.agent) && (bytes_eq path ch.agent_path && same_key ch.agent_key f.key)

  plain : IsPlain (Called serial quiet (Call.Unregister subject path))
  plain = record { asks = refl; answers = λ ch. refl }

  -- what the Unregister closes, by the key of its subject
  closed : (ch : Pending) → closes past ch (with_event i (Called serial quiet (Call.Unregister subject path)) None) ≡ ((i.entry.caller == ch.agent) && (bytes_eq path ch.agent_path && option_map_or (same_key ch.agent_key) (key_of past subject) false))
  closed ch = unregister_sides (i.entry.caller == ch.agent) (i.entry.caller == ch.asker) (bytes_eq path ch.agent_path && option_map_or (same_key ch.agent_key) (key_of past subject) false)

  closed_at : (f : Facts) → facts past subject ≡ Some f → (ch : Pending) → closes past ch (with_event i (Called serial quiet (Call.Unregister subject path)) None) ≡ is_at f ch
  closed_at f known ch = closed ch ∙ ap (λ (o : Option Facts). (i.entry.caller == ch.agent) && (bytes_eq path ch.agent_path && option_map_or (same_key ch.agent_key) (option_map (λ f. f.key) o) false)) known

  -- where none of the pending challenges is the caller's own with this path and key, all are left
  left_all : (f : Facts) → facts past subject ≡ Some f → ((ch : Pending) → Has (pending past) ch → is_at f ch ≡ true → ⊥) → After past i ChallengeChange.Keep
  left_all f known never = closes_none past i (Called serial quiet (Call.Unregister subject path)) None event none plain (λ ch h. closed_at f known ch ∙ false_from_ne_true (is_at f ch) (never ch h))

  -- the registration of a challenge's agent is the caller's, with this path and key
  record Own (f : Facts) (ch : Pending) : Type 0 where
    a : Agent
    has : Has (in_force past) a
    caller : a.caller ≡ i.entry.caller
    key : a.key ≡ f.key
    path' : a.path ≡ path

  own : (f : Facts) (ch : Pending) → Has (pending past) ch → is_at f ch ≡ true → Own f ch
  own f ch h t =
      let outer = both (i.entry.caller == ch.agent) (bytes_eq path ch.agent_path && same_key ch.agent_key f.key) t in
      let inner = both (bytes_eq path ch.agent_path) (same_key ch.agent_key f.key) outer.1 in
      let r = pending_agent past legal ch h in
      record { a = r.a; has = r.has; caller = r.caller ∙ sym ((Decides-eqb i.entry.caller ch.agent).0 outer.0); key = r.key ∙ same_key_is ch.agent_key f.key inner.1; path' = r.path ∙ sym ((bytes_eq-Decides path ch.agent_path).0 inner.0) }

  -- the registration in force of a key is the only one
  only : (f : Facts) (a b : Agent) → agent_of f.key (in_force past) ≡ Some a → Has (in_force past) b → b.key ≡ f.key → b ≡ a
  only f a b found has key =
      let there : agent_of f.key (in_force past) ≡ Some b = find_only (λ (a : Agent). same_key a.key f.key) (in_force past) (one_agent past f.key) b has (same_key_from b.key f.key key) in
      let same : Some b ≡ Some a = sym there ∙ found in
      cc same

  -- an agent may be unregistered by its own connection
  own_may : (f : Facts) → facts past subject ≡ Some f → (ch : Pending) → Own f ch → may_for past i.entry.caller f.uid ≡ true
  own_may f known ch o = ap (λ c. may_for past c f.uid) (sym o.caller) ∙ ap (may_for past o.a.caller) (facts_uid past subject f known ∙ ap uid_of_key (sym o.key)) ∙ agents_may past o.a o.has

  -- the registration that a live connection ends
  at_own : (f : Facts) → facts past subject ≡ Some f → (a : Agent) → agent_of f.key (in_force past) ≡ Some a → is_own i.entry.caller path a ≡ true → After past i (close_all (pending_at past i.entry.caller f.key))
  at_own f known a found mine = closes_all past legal i (Called serial quiet (Call.Unregister subject path)) None event none plain (λ ch. (ch.agent == i.entry.caller) && same_key ch.agent_key f.key) (λ ch h.
      closed_at f known ch ∙ same_test (is_at f ch) ((ch.agent == i.entry.caller) && same_key ch.agent_key f.key) (forth ch) (back ch h))
    where
      forth : (ch : Pending) → is_at f ch ≡ true → ((ch.agent == i.entry.caller) && same_key ch.agent_key f.key) ≡ true
      forth ch t =
          let outer = both (i.entry.caller == ch.agent) (bytes_eq path ch.agent_path && same_key ch.agent_key f.key) t in
          let inner = both (bytes_eq path ch.agent_path) (same_key ch.agent_key f.key) outer.1 in
          and_from (ch.agent == i.entry.caller) (same_key ch.agent_key f.key) ((Decides-eqb ch.agent i.entry.caller).1 (sym ((Decides-eqb i.entry.caller ch.agent).0 outer.0))) inner.1

      back : (ch : Pending) → Has (pending past) ch → ((ch.agent == i.entry.caller) && same_key ch.agent_key f.key) ≡ true → is_at f ch ≡ true
      back ch h t =
          let parts = both (ch.agent == i.entry.caller) (same_key ch.agent_key f.key) t in
          let r = pending_agent past legal ch h in
          let same = only f a r.a found r.has (r.key ∙ same_key_is ch.agent_key f.key parts.1) in
          let own_path : a.path ≡ path = (bytes_eq-Decides a.path path).0 (both (a.caller == i.entry.caller) (bytes_eq a.path path) mine).1 in
          let path_is : path ≡ ch.agent_path = sym own_path ∙ ap (λ (x : Agent). x.path) (sym same) ∙ r.path in
          and_from (i.entry.caller == ch.agent) (bytes_eq path ch.agent_path && same_key ch.agent_key f.key) ((Decides-eqb i.entry.caller ch.agent).1 (sym ((Decides-eqb ch.agent i.entry.caller).0 parts.0)))
          (and_from (bytes_eq path ch.agent_path) (same_key ch.agent_key f.key) ((bytes_eq-Decides path ch.agent_path).1 path_is) parts.1)

  -- the pending challenges after the call of a live connection
  pub unregistered_after : After past i (where_known past i.entry.caller subject ChallengeChange.Keep (λ f. option_map_or (closing_at past i.entry.caller path f) (agent_of f.key (in_force past)) ChallengeChange.Keep))
  unregistered_after =
      by_option (After past i) (λ f. if may_for past i.entry.caller f.uid then option_map_or (closing_at past i.entry.caller path f) (agent_of f.key (in_force past)) ChallengeChange.Keep else ChallengeChange.Keep) (facts past subject) ChallengeChange.Keep unknown (λ f known.
      by_test (After past i) (may_for past i.entry.caller f.uid) (option_map_or (closing_at past i.entry.caller path f) (agent_of f.key (in_force past)) ChallengeChange.Keep) ChallengeChange.Keep (λ _.
      by_option (After past i) (closing_at past i.entry.caller path f) (agent_of f.key (in_force past)) ChallengeChange.Keep (λ out. left_all f known (λ ch h t. no_agent f out ch (own f ch h t))) (λ a found.
      by_test (After past i) (is_own i.entry.caller path a) (close_all (pending_at past i.entry.caller f.key)) ChallengeChange.Keep (at_own f known a found) (λ other. left_all f known (λ ch h t. not_own f a found other ch (own f ch h t)))))
      (λ may_not. left_all f known (λ ch h t. absurd (cc (may_not, own_may f known ch (own f ch h t))))))
    where
      unknown : facts past subject ≡ None → After past i ChallengeChange.Keep
      unknown out = closes_none past i (Called serial quiet (Call.Unregister subject path)) None event none plain (λ ch h.
          closed ch
          ∙ ap (λ (o : Option Facts). (i.entry.caller == ch.agent) && (bytes_eq path ch.agent_path && option_map_or (same_key ch.agent_key) (option_map (λ f. f.key) o) false)) out
          ∙ and_right (i.entry.caller == ch.agent) (bytes_eq path ch.agent_path && false) (and_right (bytes_eq path ch.agent_path) false refl))

      no_agent : (f : Facts) → agent_of f.key (in_force past) ≡ None → (ch : Pending) → Own f ch → ⊥
      no_agent f out ch o =
          let misses : same_key o.a.key f.key ≡ false = none_passes (λ (a : Agent). same_key a.key f.key) (in_force past) out o.a o.has in
          absurd (cc (misses, same_key_from o.a.key f.key o.key))

      not_own : (f : Facts) (a : Agent) → agent_of f.key (in_force past) ≡ Some a → is_own i.entry.caller path a ≡ false → (ch : Pending) → Own f ch → ⊥
      not_own f a found other ch o =
          let same = only f a o.a found o.has o.key in
          let mine : is_own i.entry.caller path o.a ≡ true = and_from (o.a.caller == i.entry.caller) (bytes_eq o.a.path path) ((Decides-eqb o.a.caller i.entry.caller).1 o.caller) ((bytes_eq-Decides o.a.path path).1 o.path') in
          absurd (cc (other, ap (is_own i.entry.caller path) (sym same) ∙ mine))
