-- The challenge that a check opens, as far as the check has come, is the one that the definitions say.
use Rattle.std.proofs.Common.{◌≡◌, ℕ, ◌==◌, Bool, true, false, not, List, Option, Some, None, refl, ap}
use Rattle.std.specs.Prelude.{if◌then◌else◌, find, is_some, option_map, option_and_then, nat_le}
use Rattle.std.specs.Option.{option_map_or}
use Rattle.pk_types.specs.declared.values.Implicit.{Implicit}
use Rattle.authority_model.specs.declared.journal.Item.{Item}
use Rattle.authority_model.specs.declared.pending.Agent.{Agent}
use Rattle.authority_model.specs.declared.pending.Pending.{Pending}
use Rattle.authority_model.specs.declared.pending.TheConstants.{MAX_PENDING}
use Rattle.authority_model.specs.declared.policy.Action.{Action}
use Rattle.authority_model.specs.declared.verdict.GrantRow.{GrantRow}
use Rattle.authority_model.specs.declared.verdict.RuleSource.{RuleSource}
use Rattle.authority_model.specs.Steps.{◌>>=◌, guard}
use Rattle.authority_model.specs.Words.{Bytes, least_text}
use Rattle.authority_model.specs.Agents.{agent_for}
use Rattle.entry_changes.specs.Changes.{challenge_opened}
use Rattle.authority_model.specs.Challenges.{with_id, pending_beside}
use Rattle.entry_changes.specs.Changes.{begun_next, is_challenge, opening}
use Rattle.authority_model.specs.Deciding.{Decision, decided, by_grant, implying, serves}
use Rattle.authority_model.specs.Facts.{Facts}
use Rattle.authority_model.specs.Grants.{kept}
use Rattle.authority_model.specs.Interaction.{allows_interaction}
use Rattle.authority_model.specs.Items.{implicit_for, policy_of}
use Rattle.authority_model.specs.Peers.{uid_of}
use Rattle.authority_model.specs.Rules.{action_of}
use Rattle.authority_model.specs.Subjects.{facts}
use Rattle.authority_model.specs.Trust.{trusted}
use Rattle.authority_model.specs.Values.{is_yes, is_auth}
use Rattle.authority_model.proofs.Cases.{by_test}
use Rattle.event_answers.specs.Checks.{opened_if_free, opened_for, opened_told, opened_known, opened_of, opened_checked, question_of}
use Rattle.event_answers.specs.declared.checking.Check.{Check}

-- steps that go on alike
then_alike : {A B : Type 0} (f g : A → Option B) → ((x : A) → f x ≡ g x) → (o : Option A) → option_and_then f o ≡ option_and_then g o
then_alike f g same None = refl
then_alike f g same (Some x) = same x

-- what a decision tells, where it is made of something that may not be there
pub told_by : {A B C : Type 0} (decide : A → B) (tell : B → C) (o : Option A) (d : B) (none : C) → Some d ≡ option_map decide o → tell d ≡ option_map_or (λ v. tell (decide v)) o none
told_by decide tell (Some v) d none is = ap tell (cc)
told_by decide tell None d none is = absurd (cc)

pub then_by : {A B C : Type 0} (decide : A → B) (tell : B → Option C) (o : Option A) (d : B) → Some d ≡ option_map decide o → tell d ≡ option_and_then (λ v. tell (decide v)) o
then_by decide tell (Some v) d is = ap tell (cc)
then_by decide tell None d is = absurd (cc)

pub none_by : {A B C : Type 0} (decide : A → B) (f : A → C) (o : Option A) (none : C) → None ≡ option_map decide o → none ≡ option_map_or f o none
none_by decide f (Some v) none is = absurd (cc)
none_by decide f None none is = refl

pub then_none : {A B C : Type 0} (decide : A → B) (f : A → Option C) (o : Option A) → None ≡ option_map decide o → None ≡ option_and_then f o
then_none decide f (Some v) is = absurd (cc)
then_none decide f None is = refl

-- the steps of `opening`, from a later one on
abbrev from_agent : List Item → Check → Facts → Implicit × RuleSource → Agent → Option Pending
from_agent past k f v agent = do
  room ← guard (not (nat_le MAX_PENDING (pending_beside past k.asking.to.caller)))
  option_map (challenge_opened past k.asking.to.caller (question_of k) (let (value, source) = v in begun_next past k.asking.occasion.salt f value) f v agent) (uid_of past k.asking.to.caller)

abbrev from_value : List Item → Check → Facts → Implicit × RuleSource → Option Pending
from_value past k f v = do
  wanted ← guard (allows_interaction k.flags)
  agent ← agent_for past f
  from_agent past k f v agent

abbrev from_decision : List Item → Check → Facts → Implicit × RuleSource → Decision → Option Pending
from_decision past k f v d = do
  due ← guard (is_challenge d)
  from_value past k f v

abbrev from_facts : List Item → Check → Facts → Option Pending
from_facts past k f = do
  may ← guard (trusted past k.asking.to.caller f k.details.now k.action.now)
  v ← implicit_for past f k.action.now
  from_decision past k f v (decided past (kept past) f k.asking.occasion.moment k.action.now v)

module _ (past : List Item) (k : Check) where
  of_agent : (f : Facts) (v : Implicit × RuleSource) (agent : Agent) → from_agent past k f v agent ≡ opened_if_free f v agent past k
  of_agent f v agent = go (nat_le MAX_PENDING (pending_beside past k.asking.to.caller)) (option_map (challenge_opened past k.asking.to.caller (question_of k) (let (value, source) = v in begun_next past k.asking.occasion.salt f value) f v agent) (uid_of past k.asking.to.caller))
    where
      go : (b : Bool) (x : Option Pending) → option_and_then (λ (_ : Unit {0}). x) (guard (not b)) ≡ (if b then None else x)
      go true x = refl
      go false x = refl

  of_value : (f : Facts) (v : Implicit × RuleSource) → from_value past k f v ≡ opened_for f v past k
  of_value f v = go (allows_interaction k.flags)
    where
      go : (b : Bool) → option_and_then (λ (_ : Unit {0}). option_and_then (from_agent past k f v) (agent_for past f)) (guard b) ≡ option_and_then (λ agent. opened_if_free f v agent past k) (if b then agent_for past f else None)
      go true = then_alike (from_agent past k f v) (λ agent. opened_if_free f v agent past k) (of_agent f v) (agent_for past f)
      go false = refl

  of_decision : (f : Facts) (t : ℕ) (a : Bytes) (v : Implicit × RuleSource) → from_decision past k f v (decided past (kept past) f t a v) ≡ opened_told f (decided past (kept past) f t a v) past k
  of_decision f t a (value, source) = by_test P (f.uid == 0) Decision.Root (if is_yes value then Decision.Yes source else by_grant (find (serves f.key a t) (kept past)) (least_text (implying past (kept past) f t a)) value source) (λ _. refl) (λ _.
      by_test P (is_yes value) (Decision.Yes source) (by_grant (find (serves f.key a t) (kept past)) (least_text (implying past (kept past) f t a)) value source) (λ _. refl) (λ _.
      of_grant (find (serves f.key a t) (kept past)) (least_text (implying past (kept past) f t a))))
    where
      P : Decision → Type 0
      P d = from_decision past k f (value, source) d ≡ opened_told f d past k

      of_grant : (g : Option GrantRow) (b : Option Bytes) → P (by_grant g b value source)
      of_grant (Some g) b = refl
      of_grant None (Some b) = refl
      of_grant None None = by_test P (is_auth value) (Decision.Challenge value source) (Decision.No source) (λ _. of_value f (value, source)) (λ _. refl)

  of_facts : (f : Facts) → from_facts past k f ≡ opened_known f past k
  of_facts f = go (trusted past k.asking.to.caller f k.details.now k.action.now)
    where
      go : (b : Bool) → option_and_then (λ (_ : Unit {0}). option_and_then (λ v. from_decision past k f v (decided past (kept past) f k.asking.occasion.moment k.action.now v)) (implicit_for past f k.action.now)) (guard b) ≡ (if b then option_and_then (λ v. opened_told f (decided past (kept past) f k.asking.occasion.moment k.action.now v) past k) (implicit_for past f k.action.now) else None)
      go true = then_alike (λ v. from_decision past k f v (decided past (kept past) f k.asking.occasion.moment k.action.now v)) (λ v. opened_told f (decided past (kept past) f k.asking.occasion.moment k.action.now v) past k) (of_decision f k.asking.occasion.moment k.action.now) (implicit_for past f k.action.now)
      go false = refl

  opened_alike : (o : Option Action) → option_and_then (λ (_ : Action). option_and_then (from_facts past k) (facts past k.subject.now)) o ≡ option_and_then (λ (_ : Action). opened_of past k) o
  opened_alike None = refl
  opened_alike (Some a) = then_alike (from_facts past k) (λ f. opened_known f past k) of_facts (facts past k.subject.now)

  choice : (b : Bool) (o : Option Action) → option_and_then (λ (_ : Unit {0}). option_and_then (λ (_ : Action). option_and_then (from_facts past k) (facts past k.subject.now)) o) (guard (not b)) ≡ (if b then None else option_and_then (λ (_ : Action). opened_of past k) o)
  choice true o = refl
  choice false o = opened_alike o

  -- the challenge that the definitions say is the one that is opened where the check has come to its end
  pub opening_is : opening past k.asking.to.caller k.asking.occasion.moment k.asking.occasion.salt (question_of k) k.details.now k.flags ≡ opened_checked past k
  opening_is = choice (is_some (with_id past k.asking.to.caller k.cancel.now)) (action_of (policy_of past) k.action.now)
