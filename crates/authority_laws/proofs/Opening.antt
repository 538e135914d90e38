-- What the entry that opens a challenge tells.
use Rattle.std.proofs.Common.{◌≡◌, ℕ, false, List, ap, ◌∙◌, Option, Some, is_some, subst}
use Rattle.std.specs.Prelude.{option_map, option_and_then}
use Rattle.pk_types.specs.declared.values.Pair.{Pair}
use Rattle.pk_types.specs.declared.values.Implicit.{Implicit}
use Rattle.authority_model.specs.declared.pending.Agent.{Agent}
use Rattle.authority_model.specs.declared.event.Call.{Call}
use Rattle.authority_model.specs.declared.event.Event.TheVariants.{Call as Called}
use Rattle.authority_model.specs.declared.pending.Pending.{Pending}
use Rattle.authority_model.specs.declared.verdict.RuleSource.{RuleSource}
use Rattle.authority_model.specs.declared.policy.Action.{Action}
use Rattle.authority_model.specs.Facts.{Facts}
use Rattle.authority_model.specs.declared.journal.Item.{Item}
use Rattle.authority_model.specs.Items.{implicit_for}
use Rattle.authority_model.specs.Subjects.{facts}
use Rattle.authority_model.specs.Peers.{uid_of}
use Rattle.authority_model.specs.Agents.{agent_for}
use Rattle.authority_model.specs.Challenges.{Question, Begun, question_in, begun_in, opened, challenge_of, with_id}
use Rattle.authority_model.specs.Answers.{ask}
use Rattle.authority_model.specs.Legal.{Follows}
use Rattle.authority_model.proofs.Cases.{map_some, then_some}
use Rattle.authority_laws.proofs.Asking.{outputs_ask, question_is}

-- the steps by which a challenge is opened, each with what the ones before it found: the asker's uid, the agent, the action's value, the subject's facts, the Begin
abbrev pub opened_to : List Item → Item → Question → Begun → Facts → Implicit × RuleSource → Agent → Option Pending
opened_to past i q b f v a = option_map (challenge_of past i q b f v a) (uid_of past i.entry.caller)

abbrev pub opened_by : List Item → Item → Question → Begun → Facts → Implicit × RuleSource → Option Pending
opened_by past i q b f v = option_and_then (opened_to past i q b f v) (agent_for past f)

abbrev pub opened_for : List Item → Item → Question → Begun → Facts → Option Pending
opened_for past i q b f = option_and_then (opened_by past i q b f) (implicit_for past f q.action)

abbrev pub opened_with : List Item → Item → Question → Begun → Option Pending
opened_with past i q b = option_and_then (opened_for past i q b) (facts past q.subject)

abbrev pub opened_at : List Item → Item → Question → Option Pending
opened_at past i q = option_and_then (opened_with past i q) (begun_in i.entry.outputs)

-- the parts of a challenge that an item opens
pub record Opening (past : List Item) (i : Item) (ch : Pending) : Type 0 where
  pub q : Question
  pub question : question_in i.entry.event ≡ Some q
  pub details : List Pair
  pub flags : ℕ
  pub event : i.entry.event ≡ Called q.serial q.quiet (Call.Check q.subject q.action details flags q.cancel)
  pub b : Begun
  pub begins : begun_in i.entry.outputs ≡ Some b
  pub f : Facts
  pub facts_are : facts past q.subject ≡ Some f
  pub v : Implicit × RuleSource
  pub value_is : implicit_for past f q.action ≡ Some v
  pub a : Agent
  pub agent_is : agent_for past f ≡ Some a
  pub uid : ℕ
  pub uid_is : uid_of past i.entry.caller ≡ Some uid
  pub whole : challenge_of past i q b f v a uid ≡ ch

-- an item that opens a challenge has them
pub opening : (past : List Item) (i : Item) (ch : Pending) → opened past i ≡ Some ch → Opening past i ch
opening past i ch e =
    let q = then_some (opened_at past i) (question_in i.entry.event) ch e in
    let b = then_some (opened_with past i q.0) (begun_in i.entry.outputs) ch q.2 in
    let f = then_some (opened_for past i q.0 b.0) (facts past q.0.subject) ch b.2 in
    let v = then_some (opened_by past i q.0 b.0 f.0) (implicit_for past f.0 q.0.action) ch f.2 in
    let a = then_some (opened_to past i q.0 b.0 f.0 v.0) (agent_for past f.0) ch v.2 in
    let u = map_some (challenge_of past i q.0 b.0 f.0 v.0 a.0) (uid_of past i.entry.caller) ch a.2 in
    let shape = question_is i.entry.event q.0 q.1 in
    record { q = q.0; question = q.1; details = shape.0; flags = shape.1; event = shape.2; b = b.0; begins = b.1; f = f.0; facts_are = f.1; v = v.0; value_is = v.1; a = a.0; agent_is = a.1; uid = u.0; uid_is = u.1; whole = u.2 }

-- where it follows a history, its outputs are the one Begin, and its cancellation id was free
pub record Asked (past : List Item) (i : Item) (o : Question) (f : Facts) (v : Implicit × RuleSource) (a : Agent) : Type 0 where
  pub action : Action
  pub details : List Pair
  pub fresh : is_some (with_id past i.entry.caller o.cancel) ≡ false
  pub outputs : i.entry.outputs ≡ ask past i.entry.salt f a action v.0 details

-- an item that opens a challenge in a legal history asks for it
pub asked : (past : List Item) (i : Item) (ch : Pending) → Follows past i → (o : Opening past i ch) → Asked past i o.q o.f o.v o.a
asked past i ch follows o =
    let asks = outputs_ask past i follows o.q o.b o.details o.flags o.event o.begins in
    let same_f : asks.f ≡ o.f = cc (asks.facts_are, o.facts_are) in
    let value' : implicit_for past o.f o.q.action ≡ Some (asks.value, asks.source) = subst (λ (g : Facts). implicit_for past g o.q.action ≡ Some (asks.value, asks.source)) same_f asks.value_is in
    let agent' : agent_for past o.f ≡ Some asks.agent = subst (λ (g : Facts). agent_for past g ≡ Some asks.agent) same_f asks.agent_is in
    let same_v : (asks.value, asks.source) ≡ o.v = cc (value', o.value_is) in
    let same_a : asks.agent ≡ o.a = cc (agent', o.agent_is) in
    record {
      action = asks.a;
      details = asks.details;
      fresh = asks.fresh;
      outputs = asks.outputs_are ∙ ap (λ (g : Facts). ask past i.entry.salt g asks.agent asks.a asks.value asks.details) same_f ∙ ap (λ (g : Agent). ask past i.entry.salt o.f g asks.a asks.value asks.details) same_a ∙ ap (λ (w : Implicit × RuleSource). ask past i.entry.salt o.f o.a asks.a w.0 asks.details) same_v;
    }
