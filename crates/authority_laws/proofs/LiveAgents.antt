-- Agents in force, and the two sides of a pending challenge, are live connections.
use Rattle.std.proofs.Common.{◌≡◌, ℕ, Bool, true, false, ◌&&◌, ◌||◌, not, List, [], ◌∷◌, refl, ap, ◌∙◌, inl, inr, ◌⊎◌, Option, Some, None, is_some, subst}
use Rattle.std.specs.Prelude.{if◌then◌else◌, filter, option_to_list}
use Rattle.authority_model.specs.declared.event.Event.TheVariants.{Call as Called}
use Rattle.authority_model.specs.declared.event.Call.{Call}
use Rattle.authority_model.specs.declared.journal.Item.{Item}
use Rattle.authority_model.specs.declared.message.Output.{Output}
use Rattle.authority_model.specs.declared.pending.Agent.{Agent}
use Rattle.authority_model.specs.declared.pending.Pending.{Pending}
use Rattle.authority_model.specs.Lists.{Has}
use Rattle.authority_model.specs.Facts.{Facts}
use Rattle.authority_model.specs.Peers.{live, departs, is_by, is_depart, uid_of, connects}
use Rattle.authority_model.specs.Agents.{in_force, registers, ends, agent_for, unregisters, unlists}
use Rattle.authority_model.specs.Challenges.{Begun, begun_in, pending, opened, closes, with_answer}
use Rattle.authority_model.specs.Answers.{answers, answer_call, reply}
use Rattle.authority_model.specs.Legal.{Legal}
use Rattle.authority_model.proofs.Cases.{append_has, filter_has}
use Rattle.authority_laws.proofs.AgentsBack.{registers_is}
use Rattle.authority_laws.proofs.ListedKeys.{agent_for_has}
use Rattle.authority_laws.proofs.LiveSteps.{live_step}
use Rattle.authority_laws.proofs.OnePending.{each_pending}
use Rattle.authority_laws.proofs.Opening.{opening}
use Rattle.authority_laws.proofs.Standing.{not_true, neither}

-- a live connection that does not depart stays live
pub stays_live : (past : List Item) (i : Item) (c : ℕ) → live past c ≡ true → departs c i ≡ false → live (i ∷ past) c ≡ true
stays_live past i c lives stays = live_step past i c ∙ of (live past c) (departs c i) lives stays
  where
    of : (l d : Bool) → l ≡ true → d ≡ false → ((l && not d) || (not (is_some (uid_of past c)) && is_some (connects c i))) ≡ true
    of true false l d = refl
    of true true l d = absurd (cc)
    of false d l e = absurd (cc)

-- a call is no departure
call_stays : (c : ℕ) (i : Item) (serial : ℕ) (quiet : Bool) (call : Call) → i.entry.event ≡ Called serial quiet call → departs c i ≡ false
call_stays c i serial quiet call is = ap (λ e. is_by c i && is_depart e) is ∙ neither_way (is_by c i)
  where
    neither_way : (b : Bool) → (b && false) ≡ false
    neither_way true = refl
    neither_way false = refl

-- the connection of an agent in force is live
pub agents_live : (past : List Item) (a : Agent) → Has (in_force past) a → live past a.caller ≡ true
agents_live [] a h = absurd h
agents_live (i ∷ past) a h = of (agents_live past a) (append_has (filter (λ a. not (ends past a i)) (in_force past)) (option_to_list (registers past (in_force past) i)) a h)
  where
    made : registers past (in_force past) i ≡ Some a → live (i ∷ past) a.caller ≡ true
    made e = let r = registers_is past i a e in stays_live past i a.caller r.lives (call_stays a.caller i r.serial r.quiet _ r.event)

    new : (o : Option Agent) → registers past (in_force past) i ≡ o → Has (option_to_list o) a → live (i ∷ past) a.caller ≡ true
    new None e h = absurd h
    new (Some b) e (inl same) = made (e ∙ ap Some same)
    new (Some b) e (inr h) = absurd h

    of : (Has (in_force past) a → live past a.caller ≡ true) → Has (filter (λ a. not (ends past a i)) (in_force past)) a ⊎ Has (option_to_list (registers past (in_force past) i)) a → live (i ∷ past) a.caller ≡ true
    of ih (inl h) =
        let old = filter_has (λ a. not (ends past a i)) (in_force past) a h in
        let parts = neither (departs a.caller i || unregisters past a.caller a.key a.path i) (unlists a.key i) (not_true (ends past a i) old.1) in
        let first = neither (departs a.caller i) (unregisters past a.caller a.key a.path i) parts.0 in
        stays_live past i a.caller (ih old.0) first.0
    of ih (inr h) = new (registers past (in_force past) i) refl h

-- the agent that would be asked is live
pub agent_for_live : (past : List Item) (f : Facts) (a : Agent) → agent_for past f ≡ Some a → live past a.caller ≡ true
agent_for_live past f a e = agents_live past a (agent_for_has past f a e)

-- who is answered by a Begin is live
asker_live : (past : List Item) (c t salt serial : ℕ) (quiet : Bool) (call : Call) (outputs : List Output) (b : Begun) → outputs ≡ (if live past c then answer_call past c t salt (reply c serial quiet) call else []) → begun_in outputs ≡ Some b → live past c ≡ true
asker_live past c t salt serial quiet call outputs b is begins = of (live past c) refl is
  where
    of : (l : Bool) → live past c ≡ l → outputs ≡ (if l then answer_call past c t salt (reply c serial quiet) call else []) → live past c ≡ true
    of true e is = e
    of false e is = absurd (cc)

-- the asker and the agent of a pending challenge are live
abbrev pub BothLive : List Item → Pending → Type 0
BothLive past ch = (live past ch.asker ≡ true) × (live past ch.agent ≡ true)

pub pending_live : (past : List Item) → Legal past → (ch : Pending) → Has (pending past) ch → BothLive past ch
pending_live = each_pending BothLive opens stays
  where
    opens : (past : List Item) (i : Item) (ch : Pending) → Legal (i ∷ past) → opened past i ≡ Some ch → BothLive (i ∷ past) ch
    opens past i ch legal e =
        let o = opening past i ch e in
        let answered = legal.0.answered ∙ ap (λ event. answers past i.entry.caller i.entry.moment i.entry.salt event i.loaded) o.event in
        let asker = asker_live past i.entry.caller i.entry.moment i.entry.salt o.q.serial o.q.quiet (Call.Check o.q.subject o.q.action o.details o.flags o.q.cancel) i.entry.outputs o.b answered o.begins in
        let keep : (c : ℕ) → live past c ≡ true → live (i ∷ past) c ≡ true = λ c lives. stays_live past i c lives (call_stays c i o.q.serial o.q.quiet (Call.Check o.q.subject o.q.action o.details o.flags o.q.cancel) o.event) in
        subst (BothLive (i ∷ past)) o.whole (keep i.entry.caller asker, keep o.a.caller (agent_for_live past o.f o.a o.agent_is))

    stays : (past : List Item) (i : Item) (ch : Pending) → Legal (i ∷ past) → BothLive past ch → closes past ch i ≡ false → BothLive (i ∷ past) (with_answer past i ch)
    stays past i ch legal h e =
        let agent_listed = neither _ (unlists ch.agent_key i) e in
        let key_listed = neither _ (unlists ch.key i) agent_listed.0 in
        let registered = neither _ (unregisters past ch.agent ch.agent_key ch.agent_path i) key_listed.0 in
        let agent = neither _ (departs ch.agent i) registered.0 in
        let asker = neither _ (departs ch.asker i) agent.0 in
        (stays_live past i ch.asker h.0 asker.1, stays_live past i ch.agent h.1 agent.1)
