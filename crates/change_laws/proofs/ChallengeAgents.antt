-- The registration of a pending challenge's agent is in force, and an agent in force may speak for its key's user.
use Rattle.std.proofs.Common.{◌≡◌, ℕ, ◌==◌, Bool, true, false, ◌&&◌, ◌||◌, not, List, ◌∷◌, refl, ap, ◌∙◌, Some, None, subst}
use Rattle.std.specs.Prelude.{filter, option_to_list}
use Rattle.pk_types.specs.declared.values.Subject.{Subject}
use Rattle.pk_types.specs.declared.values.Pair.{Pair}
use Rattle.authority_model.specs.declared.event.Call.{Call}
use Rattle.authority_model.specs.declared.event.Event.{Event}
use Rattle.authority_model.specs.declared.event.Event.TheVariants.{Call as Called}
use Rattle.authority_model.specs.declared.journal.Item.{Item}
use Rattle.authority_model.specs.declared.pending.Agent.{Agent}
use Rattle.authority_model.specs.declared.pending.Pending.{Pending}
use Rattle.authority_model.specs.Words.{Bytes}
use Rattle.authority_model.specs.Lists.{Has}
use Rattle.authority_model.specs.Peers.{departs}
use Rattle.authority_model.specs.Agents.{in_force, registers, ends, unregisters, unlists}
use Rattle.authority_model.specs.Challenges.{pending, opened, closes, with_answer}
use Rattle.authority_model.specs.Legal.{Legal}
use Rattle.authority_laws.proofs.ListedKeys.{agent_for_has, unloaded}
use Rattle.authority_laws.proofs.OnePending.{each_pending}
use Rattle.authority_laws.proofs.Opening.{opening}
use Rattle.authority_laws.proofs.Standing.{neither, has_left, filter_in}

-- the registration in force of a challenge's agent
pub record AgentOf (past : List Item) (ch : Pending) : Type 0 where
  pub a : Agent
  pub has : Has (in_force past) a
  pub caller : a.caller ≡ ch.agent
  pub key : a.key ≡ ch.agent_key
  pub path : a.path ≡ ch.agent_path

-- a registration that an item does not end stays in force
stays_in_force : (past : List Item) (i : Item) (a : Agent) → Has (in_force past) a → ends past a i ≡ false → Has (in_force (i ∷ past)) a
stays_in_force past i a h e = has_left (filter (λ a. not (ends past a i)) (in_force past)) (option_to_list (registers past (in_force past) i)) a (filter_in (λ a. not (ends past a i)) (in_force past) a h (ap not e))

-- a check ends no registration
check_ends : (past : List Item) (i : Item) (a : Agent) (serial : ℕ) (quiet : Bool) (subject : Subject) (action : Bytes) (details : List Pair) (flags : ℕ) (cancel : Bytes)
    → i.entry.event ≡ Called serial quiet (Call.Check subject action details flags cancel) → i.loaded ≡ None → ends past a i ≡ false
check_ends past i a serial quiet subject action details flags cancel event none =
    ap (λ (e : Event). ends past a (record i { entry = record i.entry { event = e } })) event
    ∙ ap (λ o. ends past a (record i { entry = record i.entry { event = Called serial quiet (Call.Check subject action details flags cancel) }; loaded = o })) none
    ∙ by (i.entry.caller == a.caller)
  where
    by : (b : Bool) → ((b && false) || (b && false) || false) ≡ false
    by true = refl
    by false = refl

-- the registration of each pending challenge's agent is in force
pub pending_agent : (past : List Item) → Legal past → (ch : Pending) → Has (pending past) ch → AgentOf past ch
pending_agent = each_pending AgentOf opens stays
  where
    opens : (past : List Item) (i : Item) (ch : Pending) → Legal (i ∷ past) → opened past i ≡ Some ch → AgentOf (i ∷ past) ch
    opens past i ch legal e =
        let o = opening past i ch e in
        let kept = check_ends past i o.a o.q.serial o.q.quiet o.q.subject o.q.action o.details o.flags o.q.cancel o.event (unloaded past i legal.0 _ o.event refl) in
        subst (AgentOf (i ∷ past)) o.whole (record { a = o.a; has = stays_in_force past i o.a (agent_for_has past o.f o.a o.agent_is) kept; caller = refl; key = refl; path = refl })

    stays : (past : List Item) (i : Item) (ch : Pending) → Legal (i ∷ past) → AgentOf past ch → closes past ch i ≡ false → AgentOf (i ∷ past) (with_answer past i ch)
    stays past i ch legal r e =
        let agent_listed = neither _ (unlists ch.agent_key i) e in
        let key_listed = neither _ (unlists ch.key i) agent_listed.0 in
        let registered = neither _ (unregisters past ch.agent ch.agent_key ch.agent_path i) key_listed.0 in
        let stays = neither _ (departs ch.agent i) registered.0 in
        let same : ends past r.a i ≡ (departs ch.agent i || unregisters past ch.agent ch.agent_key ch.agent_path i || unlists ch.agent_key i) =
        ap (λ c. ends past (record r.a { caller = c }) i) r.caller ∙ ap (λ k. ends past (record r.a { caller = ch.agent; key = k }) i) r.key ∙ ap (λ p. ends past (record r.a { caller = ch.agent; key = ch.agent_key; path = p }) i) r.path in
        let none : (departs ch.agent i || unregisters past ch.agent ch.agent_key ch.agent_path i || unlists ch.agent_key i) ≡ false = rw stays.1 (rw registered.1 agent_listed.1) in
        record { a = r.a; has = stays_in_force past i r.a r.has (same ∙ none); caller = r.caller; key = r.key; path = r.path }
