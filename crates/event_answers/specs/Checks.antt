-- What a check tells and the challenge that it opens, said as far as the check has come.
use Rattle.std.specs.Prelude.{◌≡◌, ℕ, Bool, List, [], Option, Some, None, option_map, option_and_then, is_some, nat_le, unwrap_or, Result, IfOk, if◌then◌else◌}
use Rattle.std.specs.Option.{option_map_or}
use Rattle.pk_types.specs.declared.values.Implicit.{Implicit}
use Rattle.entry_changes.specs.declared.change.ChallengeChange.{ChallengeChange}
use Rattle.entry_changes.specs.declared.change.EntryChange.{EntryChange}
use Rattle.authority_model.specs.declared.event.Call.{Call}
use Rattle.authority_model.specs.declared.journal.Item.{Item}
use Rattle.authority_model.specs.declared.message.ErrorCause.{ErrorCause}
use Rattle.authority_model.specs.declared.message.Message.{Message}
use Rattle.authority_model.specs.declared.message.Output.{Output}
use Rattle.authority_model.specs.declared.pending.Agent.{Agent}
use Rattle.authority_model.specs.declared.pending.Pending.{Pending}
use Rattle.authority_model.specs.declared.pending.TheConstants.{MAX_PENDING}
use Rattle.authority_model.specs.declared.policy.Action.{Action}
use Rattle.authority_model.specs.declared.verdict.RuleSource.{RuleSource}
use Rattle.authority_model.specs.Agents.{agent_for}
use Rattle.authority_model.specs.Answers.{answer_for, answer_known, ask, refuse, tell, tell_challenge}
use Rattle.authority_model.specs.Challenges.{Begun, Question, pending_beside, with_id}
use Rattle.entry_changes.specs.Changes.{begun_next, challenge_opened}
use Rattle.authority_model.specs.Deciding.{Decision, decided}
use Rattle.authority_model.specs.Facts.{Facts}
use Rattle.authority_model.specs.Grants.{kept}
use Rattle.authority_model.specs.Interaction.{allows_interaction}
use Rattle.authority_model.specs.Items.{implicit_for, policy_of}
use Rattle.authority_model.specs.Locales.{localized_text}
use Rattle.authority_model.specs.Peers.{uid_of}
use Rattle.authority_model.specs.Rules.{action_of}
use Rattle.authority_model.specs.Subjects.{facts}
use Rattle.authority_model.specs.Trust.{trusted}
use Rattle.journal_view.specs.Seen.{Seen}
use Rattle.event_answers.specs.Asked.{IsAsked, of_challenges, reply_of}
use Rattle.event_answers.specs.declared.answered.Answered.{Answered}
use Rattle.event_answers.specs.declared.checking.Begun.{Begun as TheBegun}
use Rattle.event_answers.specs.declared.checking.Check.{Check}
use Rattle.event_answers.specs.declared.checking.Copied.{Copied}
use Rattle.event_answers.specs.declared.checking.Shown.{Shown}

-- the call of a check
abbrev pub check_call : Check → Call
check_call k = Call.Check k.subject.now k.action.now k.details.now k.flags k.cancel.now

-- what a check asks, as the definitions have it
abbrev pub question_of : Check → Question
question_of k = record { serial = k.asking.to.serial; quiet = k.asking.to.quiet; subject = k.subject.now; action = k.action.now; cancel = k.cancel.now }

-- what an agent is told beside the check, as the definitions have it
abbrev pub begun_seen : TheBegun → Begun
begun_seen b = record { cookie = b.cookie; identities = b.identities }

-- whether the caller of a check may ask about a subject of these facts, and hand in its details
abbrev pub is_trusted : List Item → Check → Facts → Bool
is_trusted past k f = trusted past k.asking.to.caller f k.details.now k.action.now

-- the action of a check in the policy in force
abbrev pub IsActionOf : List Item → Check → Action → Type 0
IsActionOf past k a = action_of (policy_of past) k.action.now ≡ Some a

-- the text that an agent shows for an action: the one of its locale, or an empty one
abbrev pub text_shown : Action → Agent → List ℕ
text_shown a agent = unwrap_or (localized_text a.messages agent.locale) []

-- what an agent shows of an action
abbrev pub shown_of : Action → Agent → Shown
shown_of a agent = record { id = a.id; text = text_shown a agent; icon = a.icon }

-- what a challenge keeps of its check
abbrev pub copied_of : Check → Facts → Copied
copied_of k f = record { cancel = k.cancel.now; action = k.action.now; key = f.key }

-- what is sent to an agent to ask it
abbrev pub begin_of : Check → Action → Agent → TheBegun → Output
begin_of k a agent b = record {
  to = agent.caller;
  message = Message.Begin agent.path a.id (text_shown a agent) a.icon k.details.now b.cookie b.identities;
}

-- Below, the history and the check come last.

-- the agent is asked
abbrev pub told_by_agent : Facts → Action → Implicit × RuleSource → Agent → List Item → Check → List Output
told_by_agent f a v agent past k = ask past k.asking.occasion.salt f agent a v.0 k.details.now

-- the same, unless the caller's user has too many that are pending
abbrev pub told_if_free : Facts → Action → Implicit × RuleSource → Agent → List Item → Check → List Output
told_if_free f a v agent past k =
    if nat_le MAX_PENDING (pending_beside past k.asking.to.caller) then refuse (reply_of k.asking.to) ErrorCause.TooManyPending
    else told_by_agent f a v agent past k

-- the agent is asked, or the challenge is answered
abbrev pub told_by_challenge : Facts → Action → Implicit × RuleSource → List Item → Check → List Output
told_by_challenge f a v past k =
    tell_challenge past k.asking.to.caller k.asking.occasion.salt f a k.details.now (reply_of k.asking.to) v.0 v.1
    (allows_interaction k.flags) (agent_for past f)

-- where this is decided
abbrev pub told_by_decision : Facts → Action → Decision → List Item → Check → List Output
told_by_decision f a d past k =
    tell past k.asking.to.caller k.asking.occasion.salt f a k.details.now k.flags (reply_of k.asking.to) d

-- a check by a subject of these facts
abbrev pub told_for_facts : Action → Facts → List Item → Check → List Output
told_for_facts a f past k =
    answer_for past k.asking.to.caller k.asking.occasion.moment k.asking.occasion.salt k.action.now k.details.now k.flags
    (reply_of k.asking.to) a f

-- a check of a known action
abbrev pub told_for_action : Action → List Item → Check → List Output
told_for_action a past k =
    answer_known past k.asking.to.caller k.asking.occasion.moment k.asking.occasion.salt k.subject.now k.action.now k.details.now
    k.flags (reply_of k.asking.to) a

-- a challenge is opened, if there is one
abbrev pub begun_if : Option Pending → EntryChange
begun_if row = of_challenges (option_map_or ChallengeChange.Begun row ChallengeChange.Keep)

-- the challenge of this value that asks this agent
abbrev pub opened_at : Facts → Implicit × RuleSource → Agent → List Item → Check → Option Pending
opened_at f v agent past k =
    let begun = (let (value, source) = v in begun_next past k.asking.occasion.salt f value) in
    option_map (challenge_opened past k.asking.to.caller (question_of k) begun f v agent) (uid_of past k.asking.to.caller)

-- the same, unless the caller's user has too many that are pending
abbrev pub opened_if_free : Facts → Implicit × RuleSource → Agent → List Item → Check → Option Pending
opened_if_free f v agent past k = if nat_le MAX_PENDING (pending_beside past k.asking.to.caller) then None else opened_at f v agent past k

-- the agent that a check with these flags may ask
abbrev pub agent_asked : List Item → ℕ → Facts → Option Agent
agent_asked past flags f = if allows_interaction flags then agent_for past f else None

-- the challenge of this value that asks the agent of its subject
abbrev pub opened_for : Facts → Implicit × RuleSource → List Item → Check → Option Pending
opened_for f v past k = option_and_then (λ agent. opened_if_free f v agent past k) (agent_asked past k.flags f)

-- the challenge that is opened where this is decided
abbrev pub opened_told : Facts → Decision → List Item → Check → Option Pending
opened_told f (Decision.Challenge value source) past k = opened_for f (value, source) past k
opened_told f _ past k = None

-- the challenge that a check of a known action by a subject of these facts opens
abbrev pub opened_known : Facts → List Item → Check → Option Pending
opened_known f past k =
    let decide = decided past (kept past) f k.asking.occasion.moment k.action.now in
    if is_trusted past k f then option_and_then (λ v. opened_told f (decide v) past k) (implicit_for past f k.action.now) else None

-- the challenge that a check of a known action opens
abbrev pub opened_of : List Item → Check → Option Pending
opened_of past k = option_and_then (λ f. opened_known f past k) (facts past k.subject.now)

-- the challenge that a check opens: its id is free and its action known
abbrev pub opened_checked : List Item → Check → Option Pending
opened_checked past k =
    if is_some (with_id past k.asking.to.caller k.cancel.now) then None
    else option_and_then (λ a. opened_of past k) (action_of (policy_of past) k.action.now)

-- the challenge of this value by what its agent is told, after a history
abbrev pub challenge_by : Facts → Implicit × RuleSource → Agent → TheBegun → List Item → Check → Pending
challenge_by f v agent b past k = challenge_opened past k.asking.to.caller (question_of k) (begun_seen b) f v agent k.asking.peer.uid

-- the answer to a check has the outputs that each history says that a view shows
abbrev pub TellsCheck : {E : Type 0} → Seen → Check → Result Answered E → (List Item → Check → List Output) → Type 0
TellsCheck s k answer outputs = (past : List Item) → IsAsked past s k.asking → IfOk answer (λ a. a.outputs ≡ outputs past k)

-- a check opens the challenge, if there is one, that each history says that a view shows
abbrev pub OpensCheck : {E : Type 0} → Seen → Check → Result Answered E → (List Item → Check → Option Pending) → Type 0
OpensCheck s k answer opened = (past : List Item) → IsAsked past s k.asking → IfOk answer (λ a. a.change ≡ begun_if (opened past k))

-- the same where the check's action is this one
abbrev pub TellsKnown : {E : Type 0} → Seen → Check → Action → Result Answered E → (List Item → Check → List Output) → Type 0
TellsKnown s k a answer outputs = (past : List Item) → IsAsked past s k.asking → IsActionOf past k a → IfOk answer (λ a. a.outputs ≡ outputs past k)

abbrev pub OpensKnown : {E : Type 0} → Seen → Check → Action → Result Answered E → (List Item → Check → Option Pending) → Type 0
OpensKnown s k a answer opened = (past : List Item) → IsAsked past s k.asking → IsActionOf past k a → IfOk answer (λ a. a.change ≡ begun_if (opened past k))
