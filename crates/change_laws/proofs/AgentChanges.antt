-- The agents in force after one more item are those with the change of its event.
use Rattle.std.proofs.Common.{◌≡◌, ℕ, ◌==◌, Bool, true, false, ◌&&◌, ◌||◌, not, List, [], ◌∷◌, ◌++◌, refl, ap, sym, ◌∙◌, Option, Some, None, is_some, subst}
use Rattle.std.proofs.lemmas.Bool.Decides.{Decides-eqb}
use Rattle.std.proofs.lemmas.List.{append-nil}
use Rattle.std.specs.Prelude.{if◌then◌else◌, filter, option_and_then, option_map, option_to_list, bytes_eq}
use Rattle.std.specs.Option.{option_map_or}
use Rattle.pk_types.specs.declared.values.Subject.{Subject}
use Rattle.entry_changes.specs.declared.change.AgentChange.{AgentChange}
use Rattle.authority_model.specs.declared.event.Call.{Call}
use Rattle.authority_model.specs.declared.event.Event.{Event}
use Rattle.authority_model.specs.declared.event.Event.TheVariants.{Call as Called}
use Rattle.authority_model.specs.declared.journal.Item.{Item}
use Rattle.authority_model.specs.declared.pending.Agent.{Agent}
use Rattle.authority_model.specs.Words.{Bytes}
use Rattle.authority_model.specs.Lists.{Has, when}
use Rattle.authority_model.specs.Keys.{same_key, uid_of_key}
use Rattle.authority_model.specs.Facts.{Facts}
use Rattle.authority_model.specs.Items.{world_of}
use Rattle.authority_model.specs.Subjects.{facts}
use Rattle.authority_model.specs.Peers.{live, may_for, departs, is_by, call_in}
use Rattle.authority_model.specs.Agents.{in_force, registers, registered, ends, unregisters, unregister_of, unlists, agent_of}
use Rattle.entry_changes.specs.Changes.{agent_change, agent_change_by, registering, unregistering, with_agent, after_agents, leaves, unlisted, is_own}
use Rattle.authority_model.specs.Legal.{Follows}
use Rattle.authority_model.proofs.Cases.{both}
use Rattle.authority_laws.proofs.OnlyOne.{find_only}
use Rattle.authority_laws.proofs.AgentSteps.{one_agent, registers_new, same_key_is}
use Rattle.authority_laws.proofs.AgentsBack.{facts_uid}
use Rattle.authority_laws.proofs.LiveAgents.{agents_live}
use Rattle.change_laws.proofs.Filtering.{filter_alike, filter_twice, filter_all, never, always, number_turned, bytes_turned, unlisted_is, where_facts}
use Rattle.change_laws.proofs.AgentRights.{agents_may}

-- whether a change takes an agent out
abbrev dropped : AgentChange → Agent → Bool
dropped (AgentChange.Drop key) a = same_key a.key key
dropped _ a = false

-- the agent that a change puts in
abbrev added : AgentChange → Option Agent
added (AgentChange.Add a) = Some a
added _ = None

-- a change takes agents out and puts one in
with_agent_is : (change : AgentChange) (agents : List Agent) → with_agent change agents ≡ filter (λ a. not (dropped change a)) agents ++ option_to_list (added change)
with_agent_is AgentChange.Keep agents = sym (append-nil (filter (λ (a : Agent). true) agents) ∙ filter_all agents)
with_agent_is (AgentChange.Add a) agents = ap (λ xs. xs ++ a ∷ []) (sym (filter_all agents))
with_agent_is (AgentChange.Drop key) agents = sym (append-nil (filter (λ (a : Agent). not (same_key a.key key)) agents))

-- what stays is neither ended by a departure or a load, nor taken out
stays_is : (d u r : Bool) → (not (d || u) && not r) ≡ not (d || r || u)
stays_is true u r = refl
stays_is false true true = refl
stays_is false true false = refl
stays_is false false true = refl
stays_is false false false = refl

-- a change that takes out what an item unregisters, and puts in what it registers, makes the agents in force
agents_by : (past : List Item) (i : Item) (change : AgentChange) → Follows past i → ((a : Agent) → Has (in_force past) a → dropped change a ≡ unregisters past a.caller a.key a.path i) → added change ≡ registers past (in_force past) i
    → after_agents i.entry (world_of (i ∷ past)) change (in_force past) ≡ in_force (i ∷ past)
agents_by past i change follows out new =
    with_agent_is change (filter stay (in_force past))
    ∙ ap (λ o. filter (λ a. not (dropped change a)) (filter stay (in_force past)) ++ option_to_list o) new
    ∙ ap (λ xs. xs ++ option_to_list (registers past (in_force past) i)) (filter_twice (λ a. not (dropped change a)) stay (in_force past) ∙ filter_alike (λ a. stay a && not (dropped change a)) (λ a. not (ends past a i)) (in_force past) same)
  where
    stay : Agent → Bool
    stay a = not (leaves i.entry a.caller || unlisted i.entry (world_of (i ∷ past)) a.key)

    same : (a : Agent) → Has (in_force past) a → (stay a && not (dropped change a)) ≡ not (ends past a i)
    same a h =
        ap (λ b. not (leaves i.entry a.caller || b) && not (dropped change a)) (unlisted_is past i follows a.key)
        ∙ ap (λ b. not (departs a.caller i || unlists a.key i) && not b) (out a h)
        ∙ stays_is (departs a.caller i) (unlists a.key i) (unregisters past a.caller a.key a.path i)

-- What the change puts in.

keep_adds : (l : Bool) → added (if l then AgentChange.Keep else AgentChange.Keep) ≡ None
keep_adds true = refl
keep_adds false = refl

-- a Register puts in the registration of a live caller that may speak for the subject, where the key has no agent
register_adds : (past : List Item) (i : Item) (locale path : Bytes) (l : Bool) (o : Option Facts)
    → added (if l then where_facts past i.entry.caller o AgentChange.Keep (registering past i.entry.caller locale path) else AgentChange.Keep)
    ≡ option_and_then (λ f. when (l && may_for past i.entry.caller f.uid && not (is_some (agent_of f.key (in_force past)))) (record { caller = i.entry.caller; path = path; locale = locale; key = f.key })) o
register_adds past i locale path l None = keep_adds l
register_adds past i locale path false (Some f) = refl
register_adds past i locale path true (Some f) = by (may_for past i.entry.caller f.uid) (is_some (agent_of f.key (in_force past)))
  where
    given : Agent
    given = record { caller = i.entry.caller; path = path; locale = locale; key = f.key }

    by : (m s : Bool) → added (if m then (if s then AgentChange.Keep else AgentChange.Add given) else AgentChange.Keep) ≡ when (m && not s) given
    by false s = refl
    by true true = refl
    by true false = refl

-- an Unregister puts in nothing
unregister_adds : (past : List Item) (c : ℕ) (path : Bytes) (l : Bool) (o : Option Facts) → added (if l then where_facts past c o AgentChange.Keep (unregistering past c path) else AgentChange.Keep) ≡ None
unregister_adds past c path false o = refl
unregister_adds past c path true None = refl
unregister_adds past c path true (Some f) = by (may_for past c f.uid) (agent_of f.key (in_force past))
  where
    drops : (own : Bool) → added (if own then AgentChange.Drop f.key else AgentChange.Keep) ≡ None
    drops true = refl
    drops false = refl

    by : (m : Bool) (o : Option Agent) → added (if m then option_map_or (λ a. if is_own c path a then AgentChange.Drop f.key else AgentChange.Keep) o AgentChange.Keep else AgentChange.Keep) ≡ None
    by false o = refl
    by true None = refl
    by true (Some a) = drops (is_own c path a)

-- a call puts in what it registers
call_adds : (past : List Item) (i : Item) (call : Call) → added (if live past i.entry.caller then agent_change_by past i.entry.caller call else AgentChange.Keep) ≡ registered past (in_force past) i call
call_adds past i (Call.Register subject locale path) = register_adds past i locale path (live past i.entry.caller) (facts past subject)
call_adds past i (Call.Unregister subject path) = unregister_adds past i.entry.caller path (live past i.entry.caller) (facts past subject)
call_adds past i _ = keep_adds (live past i.entry.caller)

-- an event puts in what it registers
event_adds : (past : List Item) (i : Item) (event : Event) → added (agent_change past i.entry.caller event) ≡ option_and_then (registered past (in_force past) i) (call_in event)
event_adds past i (Called serial quiet call) = call_adds past i call
event_adds past i _ = refl

-- What the change takes out.

keep_drops : (l b : Bool) (a : Agent) → dropped (if l then AgentChange.Keep else AgentChange.Keep) a ≡ (b && false)
keep_drops true b a = sym (never b)
keep_drops false b a = sym (never b)

-- a Register takes out nothing
register_drops : (past : List Item) (c : ℕ) (locale path : Bytes) (a : Agent) (l : Bool) (o : Option Facts) → dropped (if l then where_facts past c o AgentChange.Keep (registering past c locale path) else AgentChange.Keep) a ≡ false
register_drops past c locale path a false o = refl
register_drops past c locale path a true None = refl
register_drops past c locale path a true (Some f) = by (may_for past c f.uid) (is_some (agent_of f.key (in_force past)))
  where
    by : (m s : Bool) → dropped (if m then (if s then AgentChange.Keep else AgentChange.Add (record { caller = c; path = path; locale = locale; key = f.key })) else AgentChange.Keep) a ≡ false
    by false s = refl
    by true true = refl
    by true false = refl

-- The Unregister of an agent in force, for a subject of these facts.
module _ (past : List Item) (i : Item) (path : Bytes) (a : Agent) (f : Facts) where
  -- the change where the caller is live, may speak for the subject, and the key has this agent
  abbrev unregistered : Bool → Bool → Option Agent → AgentChange
  unregistered l m o = if l then (if m then option_map_or (λ b. if is_own i.entry.caller path b then AgentChange.Drop f.key else AgentChange.Keep) o AgentChange.Keep else AgentChange.Keep) else AgentChange.Keep

  -- an agent of another key stays
  other_stays : (l m : Bool) (o : Option Agent) → same_key a.key f.key ≡ false → dropped (unregistered l m o) a ≡ false
  other_stays false m o differ = refl
  other_stays true false o differ = refl
  other_stays true true None differ = refl
  other_stays true true (Some b) differ = by (is_own i.entry.caller path b)
    where
      by : (own : Bool) → dropped (if own then AgentChange.Drop f.key else AgentChange.Keep) a ≡ false
      by true = differ
      by false = refl

  -- the agent of the key goes where it is the caller's with this path, which is then live and may speak for the subject
  own_goes : (l m own : Bool) → same_key a.key f.key ≡ true → (own ≡ true → l ≡ true) → (own ≡ true → m ≡ true) → dropped (if l then (if m then (if own then AgentChange.Drop f.key else AgentChange.Keep) else AgentChange.Keep) else AgentChange.Keep) a ≡ own
  own_goes true true true same lives may = same
  own_goes false m true same lives may = absurd (cc (lives refl))
  own_goes true false true same lives may = absurd (cc (may refl))
  own_goes false m false same lives may = refl
  own_goes true false false same lives may = refl
  own_goes true true false same lives may = refl

  -- whether the agent goes is what the definition of an Unregister says
  unregisters_is : Has (in_force past) a → f.uid ≡ uid_of_key f.key
      → dropped (unregistered (live past i.entry.caller) (may_for past i.entry.caller f.uid) (agent_of f.key (in_force past))) a ≡ (is_by a.caller i && (bytes_eq path a.path && same_key a.key f.key))
  unregisters_is h user = of (same_key a.key f.key) refl
    where
      -- the definition, with what it says of the key
      of_key : Bool → Bool
      of_key t = is_by a.caller i && (bytes_eq path a.path && t)

      caller : is_own i.entry.caller path a ≡ true → a.caller ≡ i.entry.caller
      caller own = (Decides-eqb a.caller i.entry.caller).0 (both (a.caller == i.entry.caller) (bytes_eq a.path path) own).0

      of : (t : Bool) → same_key a.key f.key ≡ t → dropped (unregistered (live past i.entry.caller) (may_for past i.entry.caller f.uid) (agent_of f.key (in_force past))) a ≡ of_key (same_key a.key f.key)
      of false differ =
          other_stays (live past i.entry.caller) (may_for past i.entry.caller f.uid) (agent_of f.key (in_force past)) differ
          ∙ sym (ap (λ b. is_by a.caller i && b) (never (bytes_eq path a.path)) ∙ never (is_by a.caller i))
          ∙ ap of_key (sym differ)
      of true same =
          ap (λ o. dropped (unregistered (live past i.entry.caller) (may_for past i.entry.caller f.uid) o) a) (find_only (λ (b : Agent). same_key b.key f.key) (in_force past) (one_agent past f.key) a h same)
          ∙ own_goes (live past i.entry.caller) (may_for past i.entry.caller f.uid) (is_own i.entry.caller path a) same
          (λ own. subst (λ c. live past c ≡ true) (caller own) (agents_live past a h))
          (λ own. subst (λ c. may_for past c f.uid ≡ true) (caller own) (ap (may_for past a.caller) (user ∙ ap uid_of_key (sym (same_key_is a.key f.key same))) ∙ agents_may past a h))
          ∙ ap (λ b. b && bytes_eq a.path path) (number_turned a.caller i.entry.caller)
          ∙ ap (λ b. is_by a.caller i && b) (bytes_turned a.path path)
          ∙ ap (λ b. is_by a.caller i && b) (sym (always (bytes_eq path a.path)))
          ∙ ap of_key (sym same)

-- an Unregister takes out the agents in force that it unregisters
unregister_drops : (past : List Item) (i : Item) (a : Agent) → Has (in_force past) a → (subject : Subject) (path : Bytes) (o : Option Facts) → facts past subject ≡ o
    → dropped (if live past i.entry.caller then where_facts past i.entry.caller o AgentChange.Keep (unregistering past i.entry.caller path) else AgentChange.Keep) a
    ≡ (is_by a.caller i && (bytes_eq path a.path && option_map_or (same_key a.key) (option_map (λ f. f.key) o) false))
unregister_drops past i a h subject path None is = keep_drops (live past i.entry.caller) (is_by a.caller i) a ∙ ap (λ b. is_by a.caller i && b) (sym (never (bytes_eq path a.path)))
unregister_drops past i a h subject path (Some f) is = unregisters_is past i path a f h (facts_uid past subject f is)

-- a call takes out the agents in force that it unregisters
call_drops : (past : List Item) (i : Item) (a : Agent) → Has (in_force past) a → (call : Call) → dropped (if live past i.entry.caller then agent_change_by past i.entry.caller call else AgentChange.Keep) a ≡ (is_by a.caller i && unregister_of past a.key a.path call)
call_drops past i a h (Call.Unregister subject path) = unregister_drops past i a h subject path (facts past subject) refl
call_drops past i a h (Call.Register subject locale path) = register_drops past i.entry.caller locale path a (live past i.entry.caller) (facts past subject) ∙ sym (never (is_by a.caller i))
call_drops past i a h _ = keep_drops (live past i.entry.caller) (is_by a.caller i) a

-- an event takes out the agents in force that it unregisters
event_drops : (past : List Item) (i : Item) (a : Agent) → Has (in_force past) a → (event : Event) → dropped (agent_change past i.entry.caller event) a ≡ (is_by a.caller i && option_map_or (unregister_of past a.key a.path) (call_in event) false)
event_drops past i a h (Called serial quiet call) = call_drops past i a h call
event_drops past i a h _ = sym (never (is_by a.caller i))

-- The agents in force with the change of an event, and without those that a departure or a load ends, are those after it.
pub agents_after : (past : List Item) (i : Item) → Follows past i → after_agents i.entry (world_of (i ∷ past)) (agent_change past i.entry.caller i.entry.event) (in_force past) ≡ in_force (i ∷ past)
agents_after past i follows = agents_by past i (agent_change past i.entry.caller i.entry.event) follows (λ a h. event_drops past i a h i.entry.event) (event_adds past i i.entry.event)

-- the key of an agent that a change puts in had none
pub agent_fresh : (past : List Item) (i : Item) (a : Agent) → agent_change past i.entry.caller i.entry.event ≡ AgentChange.Add a → agent_of a.key (in_force past) ≡ None
agent_fresh past i a is = registers_new past (in_force past) i a (sym (event_adds past i i.entry.event) ∙ ap added is)
