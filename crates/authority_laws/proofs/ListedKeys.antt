-- The keys of agents, pending challenges and temporary authorizations are listed in the world in force.
use Rattle.std.proofs.Common.{◌≡◌, ℕ, ◌==◌, Bool, true, false, ◌&&◌, ◌||◌, not, List, [], ◌∷◌, refl, ap, ◌∙◌, inl, inr, ◌⊎◌, Option, Some, None, subst}
use Rattle.std.proofs.lemmas.Bool.Decides.{Decides-eqb}
use Rattle.std.proofs.lemmas.Slice.Eq.{bytes_eq-Decides}
use Rattle.std.specs.Prelude.{filter, option_and_then, option_to_list, bytes_eq}
use Rattle.std.specs.Option.{option_map_or}
use Rattle.pk_types.specs.declared.values.Subject.{Subject}
use Rattle.authority_model.specs.declared.pending.Agent.{Agent}
use Rattle.authority_model.specs.declared.event.Event.{Event}
use Rattle.authority_model.specs.declared.event.Event.TheVariants.{Connect, Call as Called, Returned, AgentError, Passed, Depart, Load, LoadFailed, Stop, Collect}
use Rattle.authority_model.specs.declared.journal.Item.{Item}
use Rattle.authority_model.specs.declared.key.Key.{Key}
use Rattle.authority_model.specs.declared.pending.Pending.{Pending}
use Rattle.authority_model.specs.declared.load.Loaded.{Loaded}
use Rattle.authority_model.specs.declared.world.Process.{Process as ProcessRow}
use Rattle.authority_model.specs.declared.world.Session.{Session as SessionRow}
use Rattle.authority_model.specs.Words.{Bytes}
use Rattle.authority_model.specs.Lists.{Has, or_else}
use Rattle.authority_model.specs.Keys.{same_key}
use Rattle.authority_model.specs.Facts.{Facts, facts_of_process, facts_of_session}
use Rattle.authority_model.specs.Worlds.{lists_key, process_row, session_row}
use Rattle.authority_model.specs.Items.{loaded_of, world_of, is_load}
use Rattle.authority_model.specs.Subjects.{facts}
use Rattle.authority_model.specs.Agents.{in_force, registers, ends, unlists, agent_of, agent_for, unregisters}
use Rattle.authority_model.specs.Peers.{departs}
use Rattle.authority_model.specs.Challenges.{pending, opened, closes}
use Rattle.authority_model.specs.Legal.{Legal, Follows, IsNumbered}
use Rattle.authority_model.specs.Answers.{loads}
use Rattle.authority_model.proofs.Cases.{append_has, filter_has, find_has}
use Rattle.authority_laws.proofs.AgentsBack.{facts_from, registers_is}
use Rattle.authority_laws.proofs.OpeningBack.{opens_is}
use Rattle.authority_laws.proofs.OnePending.{each_pending}
use Rattle.authority_laws.proofs.Standing.{not_true, any_has, neither}

-- a subject's key is listed
pub lists_facts : (past : List Item) (subject : Subject) (f : Facts) → facts past subject ≡ Some f → lists_key (world_of past) f.key ≡ true
lists_facts past = facts_from past (λ f. lists_key (world_of past) f.key ≡ true) process session
  where
    process : (pid start : ℕ) (p : ProcessRow) → process_row (world_of past) pid start ≡ Some p → lists_key (world_of past) (facts_of_process (world_of past) p).key ≡ true
    process pid start p e =
        let found = find_has (λ (p : ProcessRow). (p.pid == pid) && (p.start == start)) (world_of past).processes p e in
        any_has (λ (q : ProcessRow). (q.pid == p.pid) && (q.start == p.start) && (q.uid == p.uid)) (world_of past).processes p found.0 (rw ((Decides-eqb p.pid p.pid).1 refl) (rw ((Decides-eqb p.start p.start).1 refl) (rw ((Decides-eqb p.uid p.uid).1 refl) refl)))

    session : (id : Bytes) (s : SessionRow) → session_row (world_of past) id ≡ Some s → lists_key (world_of past) (facts_of_session s).key ≡ true
    session id s e =
        let found = find_has (λ (s : SessionRow). bytes_eq s.id id) (world_of past).sessions s e in
        any_has (λ (q : SessionRow). bytes_eq q.id s.id && (q.uid == s.uid)) (world_of past).sessions s found.0 (rw ((bytes_eq-Decides s.id s.id).1 refl) (rw ((Decides-eqb s.uid s.uid).1 refl) refl))

-- a key that an item does not unlist stays listed
pub listed_step : (past : List Item) (i : Item) (key : Key) → unlists key i ≡ false → lists_key (world_of past) key ≡ true → lists_key (world_of (i ∷ past)) key ≡ true
listed_step past i key e h = of i.loaded e
  where
    bool : (b : Bool) → not b ≡ false → b ≡ true
    bool true e = refl
    bool false e = absurd (cc)

    of : (o : Option Loaded) → option_map_or (λ l. not (lists_key l.world key)) o false ≡ false → lists_key (option_map_or (λ l. l) o (loaded_of past)).world key ≡ true
    of None e = h
    of (Some l) e = bool (lists_key l.world key) e

-- what is not a load has no value
pub unloaded : (past : List Item) (i : Item) → Follows past i → (e : Event) → i.entry.event ≡ e → is_load e ≡ false → i.loaded ≡ None
unloaded past i follows e is out = of e i.loaded (subst (λ (e : Event). IsNumbered (loads past) e i.loaded) is follows.numbered) out
  where
    of : (e : Event) (o : Option Loaded) → IsNumbered (loads past) e o → is_load e ≡ false → o ≡ None
    of (Load n) o h out = absurd (cc)
    of (Connect uid) o h out = h
    of (Called serial quiet call) o h out = h
    of (Returned s) o h out = h
    of (AgentError s name) o h out = h
    of Passed o h out = h
    of Depart o h out = h
    of (LoadFailed code) o h out = h
    of Stop o h out = h
    of (Collect other) o h out = h

-- a key stays listed where nothing is loaded
pub listed_beside : (past : List Item) (i : Item) (key : Key) → i.loaded ≡ None → lists_key (world_of past) key ≡ true → lists_key (world_of (i ∷ past)) key ≡ true
listed_beside past i key none h = ap (λ o. lists_key (option_map_or (λ l. l) o (loaded_of past)).world key) none ∙ h

-- the keys of the registrations in force are listed
pub agents_listed : (past : List Item) → Legal past → (a : Agent) → Has (in_force past) a → lists_key (world_of past) a.key ≡ true
agents_listed [] legal a h = absurd h
agents_listed (i ∷ past) legal a h = of (agents_listed past legal.1 a) (append_has (filter (λ a. not (ends past a i)) (in_force past)) (option_to_list (registers past (in_force past) i)) a h)
  where
    made : registers past (in_force past) i ≡ Some a → lists_key (world_of (i ∷ past)) a.key ≡ true
    made e = let r = registers_is past i a e in listed_beside past i a.key (unloaded past i legal.0 _ r.event refl) (subst (λ k. lists_key (world_of past) k ≡ true) r.key_is (lists_facts past r.subject r.f r.facts_are))

    new : (o : Option Agent) → registers past (in_force past) i ≡ o → Has (option_to_list o) a → lists_key (world_of (i ∷ past)) a.key ≡ true
    new None e h = absurd h
    new (Some b) e (inl same) = made (e ∙ ap Some same)
    new (Some b) e (inr h) = absurd h

    of : (Has (in_force past) a → lists_key (world_of past) a.key ≡ true) → Has (filter (λ a. not (ends past a i)) (in_force past)) a ⊎ Has (option_to_list (registers past (in_force past) i)) a → lists_key (world_of (i ∷ past)) a.key ≡ true
    of ih (inl h) =
        let old = filter_has (λ a. not (ends past a i)) (in_force past) a h in
        let parts = neither (departs a.caller i || unregisters past a.caller a.key a.path i) (unlists a.key i) (not_true (ends past a i) old.1) in
        listed_step past i a.key parts.1 (ih old.0)
    of ih (inr h) = new (registers past (in_force past) i) refl h

-- an agent that is asked is in force
pub agent_for_has : (past : List Item) (f : Facts) (a : Agent) → agent_for past f ≡ Some a → Has (in_force past) a
agent_for_has past f a e = of (agent_of f.key (in_force past)) refl e
  where
    found : (key : Key) → agent_of key (in_force past) ≡ Some a → Has (in_force past) a
    found key e = (find_has (λ (b : Agent). same_key' b key) (in_force past) a e).0
      where
        same_key' : Agent → Key → Bool
        same_key' b key = same_key b.key key

    second : (o : Option SessionRow) → option_and_then (λ s. agent_of (Key.Session s.id s.uid) (in_force past)) o ≡ Some a → Has (in_force past) a
    second None e = absurd (cc)
    second (Some s) e = found (Key.Session s.id s.uid) e

    of : (o : Option Agent) → agent_of f.key (in_force past) ≡ o → or_else o (option_and_then (λ s. agent_of (Key.Session s.id s.uid) (in_force past)) (option_and_then (session_row (world_of past)) f.session)) ≡ Some a → Has (in_force past) a
    of (Some b) is e = found f.key (is ∙ e)
    of None is e = second (option_and_then (session_row (world_of past)) f.session) e

-- the keys of a pending challenge and of its agent are listed
pub pending_listed : (past : List Item) → Legal past → (ch : Pending) → Has (pending past) ch → (lists_key (world_of past) ch.key ≡ true) × (lists_key (world_of past) ch.agent_key ≡ true)
pending_listed = each_pending (λ past ch. (lists_key (world_of past) ch.key ≡ true) × (lists_key (world_of past) ch.agent_key ≡ true)) opens stays
  where
    opens : (past : List Item) (i : Item) (ch : Pending) → Legal (i ∷ past) → opened past i ≡ Some ch → (lists_key (world_of (i ∷ past)) ch.key ≡ true) × (lists_key (world_of (i ∷ past)) ch.agent_key ≡ true)
    opens past i ch legal e =
        let o = opens_is past i ch legal.0 e in
        let none = unloaded past i legal.0 _ o.event refl in (
          listed_beside past i ch.key none (subst (λ k. lists_key (world_of past) k ≡ true) o.key_is (lists_facts past o.subject o.f o.facts_are)),
          listed_beside past i ch.agent_key none (subst (λ k. lists_key (world_of past) k ≡ true) o.agent_key (agents_listed past legal.1 o.agent (agent_for_has past o.f o.agent o.agent_is))),
        )

    stays : (past : List Item) (i : Item) (ch : Pending) → Legal (i ∷ past) → (lists_key (world_of past) ch.key ≡ true) × (lists_key (world_of past) ch.agent_key ≡ true) → closes past ch i ≡ false → (lists_key (world_of (i ∷ past)) ch.key ≡ true) × (lists_key (world_of (i ∷ past)) ch.agent_key ≡ true)
    stays past i ch legal h e =
        let last = neither _ (unlists ch.agent_key i) e in
        let before = neither _ (unlists ch.key i) last.0 in
        (listed_step past i ch.key before.1 h.0, listed_step past i ch.agent_key last.1 h.1)
