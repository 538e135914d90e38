-- An item opens a challenge where the sentence of looking back says so.
use Rattle.std.proofs.Common.{◌≡◌, ℕ, ◌+◌, List, [], ◌∷◌, refl, ap, sym, ◌∙◌, inl, inr, Option, Some, None, subst}
use Rattle.std.specs.Prelude.{option_map, option_and_then}
use Rattle.authority_model.specs.declared.journal.Item.{Item}
use Rattle.authority_model.specs.declared.message.Output.{Output}
use Rattle.authority_model.specs.declared.pending.Pending.{Pending}
use Rattle.authority_model.specs.Lists.{or_else}
use Rattle.authority_model.specs.Admins.{allowed}
use Rattle.authority_model.specs.Items.{sent, count_to, world_of, policy_of}
use Rattle.authority_model.specs.Peers.{uid_of}
use Rattle.authority_model.specs.Challenges.{Question, Begun, question_in, begun, begun_in, opened, opened_count, challenge_of}
use Rattle.authority_model.specs.Answers.{begin_to}
use Rattle.authority_model.specs.Legal.{Follows}
use Rattle.authority_model.specs.Licensed.{Asks, NthTo}
use Rattle.authority_model.specs.LookBack.{Opens}
use Rattle.authority_laws.proofs.Asking.{outputs_ask}
use Rattle.authority_laws.proofs.Opening.{opening, asked, opened_at, opened_with, opened_for, opened_by, opened_to}

same_identities : (b x : Begun) → Some b ≡ Some x → b.identities ≡ x.identities
same_identities b x e = cc

-- the item opened the challenge
abbrev pub Began : List Item → Item → Pending → Type 0
Began before q ch = Asks before q ch.asker ch.serial ch.agent ch.agent_serial ch.action ch.key ch.cookie ch.identities

-- an item that opens a challenge asks for it
pub began : (past : List Item) (i : Item) (ch : Pending) → Follows past i → opened past i ≡ Some ch → Began past i ch
began past i ch follows e =
    let p = opening past i ch e in
    let a = asked past i ch follows p in
    let begin : Output = begin_to past i.entry.salt p.f p.a a.action p.v.0 a.details in
    let begins : begun begin.message ≡ Some p.b = sym (ap begun_in a.outputs) ∙ p.begins in
    let due : Begun = record { cookie = record { serial = opened_count past + 1; salt = i.entry.salt }; identities = allowed (world_of past) (policy_of past).admins p.v.0 p.f.uid } in
    let offered : p.b.identities ≡ allowed (world_of past) (policy_of past).admins p.v.0 p.f.uid = same_identities p.b due (sym begins) in
    subst (Began past i) p.whole (record {
      subject = p.q.subject;
      check = record { caller = refl; quiet = p.q.quiet; details = p.details; flags = p.flags; cancel = p.q.cancel; event = p.event };
      f = p.f;
      facts_are = p.facts_are;
      key_is = refl;
      value = p.v.0;
      source = p.v.1;
      value_is = p.value_is;
      agent = p.a;
      agent_is = p.agent_is;
      agent_caller = refl;
      begin = begin;
      identities = p.b.identities;
      begins = begins;
      placed = subst (NthTo p.a.caller (sent past p.a.caller) (sent past p.a.caller + 1) begin) (sym a.outputs) (inl (refl, refl, refl));
      offered_are = offered;
    })

-- what opens a challenge does so as the sentence says
pub opens_is : (past : List Item) (i : Item) (o : Pending) → Follows past i → opened past i ≡ Some o → Opens past i o
opens_is past i o follows e =
    let p = opening past i o e in
    let a = asked past i o follows p in
    let begin : Output = begin_to past i.entry.salt p.f p.a a.action p.v.0 a.details in
    let begins : begun begin.message ≡ Some p.b = sym (ap begun_in a.outputs) ∙ p.begins in
    subst (Opens past i) p.whole (record {
      entry_is = refl;
      unanswered = refl;
      subject = p.q.subject;
      details = p.details;
      flags = p.flags;
      event = p.event;
      asker = refl;
      asker_uid = p.uid_is;
      f = p.f;
      facts_are = p.facts_are;
      key_is = refl;
      value_is = p.value_is;
      agent = p.a;
      agent_is = p.agent_is;
      agent_caller = refl;
      agent_key = refl;
      agent_path = refl;
      begin = begin;
      begins = begins;
      placed = subst (NthTo p.a.caller (sent past p.a.caller) (sent past p.a.caller + 1) begin) (sym a.outputs) (inl (refl, refl, refl));
    })

-- outputs that have a Begin have a first one
begin_found : (outputs : List Output) (c n k : ℕ) (o : Output) (x : Begun) → NthTo c n k o outputs → begun o.message ≡ Some x → (y : Begun) × (begun_in outputs ≡ Some y)
begin_found [] c n k o x h e = absurd h
begin_found (p ∷ outputs) c n k o x (inl h) e = (x, ap (λ m. or_else m (begun_in outputs)) (ap (λ (p : Output). begun p.message) h.0 ∙ e))
begin_found (p ∷ outputs) c n k o x (inr h) e = of (begun p.message) (begin_found outputs c (n + count_to c (p ∷ [])) k o x h e)
  where
    of : (m : Option Begun) → (y : Begun) × (begun_in outputs ≡ Some y) → (y : Begun) × (or_else m (begun_in outputs) ≡ Some y)
    of None ih = ih
    of (Some y) ih = (y, refl)

only_one : (c n k : ℕ) (o p : Output) → NthTo c n k o (p ∷ []) → (p ≡ o) × (n + 1 ≡ k)
only_one c n k o p (inl h) = (h.0, h.2)
only_one c n k o p (inr h) = absurd h

-- what the sentence says opens a challenge
pub is_opened : (past : List Item) (i : Item) (o : Pending) → Follows past i → Opens past i o → opened past i ≡ Some o
is_opened past i o follows g =
    let q : Question = record { serial = o.serial; quiet = o.quiet; subject = g.subject; action = o.action; cancel = o.cancel } in
    let first = begin_found i.entry.outputs o.agent (sent past o.agent) o.agent_serial g.begin (record { cookie = o.cookie; identities = o.identities }) g.placed g.begins in
    let asks = outputs_ask past i follows q first.0 g.details g.flags g.event first.1 in
    let out : Output = begin_to past i.entry.salt asks.f asks.agent asks.a asks.value asks.details in
    let one = only_one o.agent (sent past o.agent) o.agent_serial g.begin out (subst (NthTo o.agent (sent past o.agent) o.agent_serial g.begin) asks.outputs_are g.placed) in
    let begins : begun_in i.entry.outputs ≡ Some (record { cookie = o.cookie; identities = o.identities }) = ap begun_in asks.outputs_are ∙ ap (λ (p : Output). begun p.message) one.0 ∙ g.begins in
    ap (λ e. option_and_then (opened_at past i) (question_in e)) g.event
    ∙ ap (option_and_then (opened_with past i q)) begins
    ∙ ap (option_and_then (opened_for past i q (record { cookie = o.cookie; identities = o.identities }))) g.facts_are
    ∙ ap (option_and_then (opened_by past i q (record { cookie = o.cookie; identities = o.identities }) g.f)) g.value_is
    ∙ ap (option_and_then (opened_to past i q (record { cookie = o.cookie; identities = o.identities }) g.f (o.value, o.source))) g.agent_is
    ∙ ap (option_map (challenge_of past i q (record { cookie = o.cookie; identities = o.identities }) g.f (o.value, o.source) g.agent)) (ap (uid_of past) g.asker ∙ g.asker_uid)
    ∙ ap Some (whole one.1)
  where
    whole : sent past o.agent + 1 ≡ o.agent_serial → challenge_of past i (record { serial = o.serial; quiet = o.quiet; subject = g.subject; action = o.action; cancel = o.cancel }) (record { cookie = o.cookie; identities = o.identities }) g.f (o.value, o.source) g.agent o.asker_uid ≡ o
    whole serial =
        ap (λ n. record (challenge_of past i (record { serial = o.serial; quiet = o.quiet; subject = g.subject; action = o.action; cancel = o.cancel }) (record { cookie = o.cookie; identities = o.identities }) g.f (o.value, o.source) g.agent o.asker_uid) { entry = n }) (sym g.entry_is)
        ∙ ap (λ c. record o { asker = c; key = g.f.key; agent = g.agent.caller; agent_serial = sent past g.agent.caller + 1; agent_key = g.agent.key; agent_path = g.agent.path; answered = None }) g.asker
        ∙ ap (λ k. record o { key = k; agent = g.agent.caller; agent_serial = sent past g.agent.caller + 1; agent_key = g.agent.key; agent_path = g.agent.path; answered = None }) g.key_is
        ∙ ap (λ c. record o { agent = c; agent_serial = sent past c + 1; agent_key = g.agent.key; agent_path = g.agent.path; answered = None }) g.agent_caller
        ∙ ap (λ n. record o { agent_serial = n; agent_key = g.agent.key; agent_path = g.agent.path; answered = None }) serial
        ∙ ap (λ k. record o { agent_key = k; agent_path = g.agent.path; answered = None }) g.agent_key
        ∙ ap (λ p. record o { agent_path = p; answered = None }) g.agent_path
        ∙ ap (λ a. record o { answered = a }) (sym g.unanswered)
