-- What one side writes and the other side reads.
use Rattle.std.specs.Prelude.{ℕ, ◌<◌, ◌^◌, ◌||◌, Bool, if◌then◌else◌, List, [], ◌∷◌, Option, Some, None, codes}
use Rattle.pk_types.specs.Text.{IsText}
use Rattle.pk_types.specs.declared.values.Identity.{Identity}
use Rattle.pk_types.specs.declared.values.Pair.{Pair}
use Rattle.pk_types.specs.declared.values.Subject.{Subject}
use Rattle.dbus_values.specs.Basics.{is_path}
use Rattle.authority_model.specs.declared.event.Call.{Call}
use Rattle.authority_model.specs.declared.event.Call.TheVariants as call
use Rattle.authority_model.specs.declared.event.Event.{Event}
use Rattle.authority_model.specs.declared.event.Event.TheVariants as event
use Rattle.authority_model.specs.declared.load.Loaded.{Loaded}
use Rattle.authority_model.specs.declared.message.Answer.{Answer}
use Rattle.authority_model.specs.declared.message.Answer.TheVariants as told_by
use Rattle.authority_model.specs.declared.message.ErrorCause.{ErrorCause}
use Rattle.authority_model.specs.Answers.{cancelled_name}
use Rattle.authority_model.specs.Causes.{error_name}
use Rattle.authority_model.specs.Details.{details_of}
use Rattle.authority_messages.specs.declared.replies.TheConstants.{LIMITS_EXCEEDED}
use Rattle.authority_messages.specs.Messages.{is_over, is_unspoken, answering}
use Rattle.client_messages.specs.declared.agent.AgentReply.{AgentReply}
use Rattle.client_messages.specs.declared.agent.AgentReply.TheVariants as reply
use Rattle.client_messages.specs.declared.answer.ClientAnswer.{ClientAnswer}
use Rattle.client_messages.specs.declared.answer.ClientAnswer.TheVariants as answer

-- The texts of a value are texts and its numbers have 32 bits, as those of each value in memory.
abbrev pub SubjectInRange : Subject → Type 0
SubjectInRange (Subject.Process pid start) = pid < 2 ^ 32
SubjectInRange (Subject.Session id) = IsText id
SubjectInRange (Subject.BusName name) = IsText name

abbrev pub IdentityInRange : Identity → Type 0
IdentityInRange (Identity.User uid) = uid < 2 ^ 32
IdentityInRange (Identity.Group gid) = gid < 2 ^ 32

abbrev pub PairsInRange : List Pair → Type 0
PairsInRange [] = Unit {0}
PairsInRange (p ∷ ps) = IsText p.key × IsText p.value × PairsInRange ps

abbrev pub CallInRange : Call → Type 0
CallInRange (call.Check who action details flags cancel) = SubjectInRange who × IsText action × PairsInRange details × (flags < 2 ^ 32) × IsText cancel
CallInRange (call.Cancel id) = IsText id
CallInRange (call.Register who locale path) = SubjectInRange who × IsText locale × IsText path
CallInRange (call.Unregister who path) = SubjectInRange who × IsText path
CallInRange (call.Respond cookie who) = IsText cookie × IdentityInRange who
CallInRange (call.EnumerateActions locale) = IsText locale
CallInRange (call.EnumerateGrants who) = SubjectInRange who
CallInRange (call.RevokeAll who) = SubjectInRange who
CallInRange (call.RevokeOne id) = IsText id
CallInRange (call.Announce pid start) = pid < 2 ^ 32
CallInRange call.Reload = Unit {0}
CallInRange (call.Wrong cause) = Unit {0}

-- the details of a call
abbrev pub details_in : Call → List Pair
details_in (call.Check who action details flags cancel) = details
details_in _ = []

-- What a call is understood as. An agent's path that is not an object path is out of form; nothing else is lost.
abbrev pub understood : Call → Call
understood (call.Register who locale path) = if is_path path then call.Register who locale path else call.Wrong ErrorCause.InvalidArgs
understood (call.Unregister who path) = if is_path path then call.Unregister who path else call.Wrong ErrorCause.InvalidArgs
understood said = said

-- the same of an answer; the number of a temporary authorization has 64 bits
abbrev pub GrantInRange : Option ℕ → Type 0
GrantInRange None = Unit {0}
GrantInRange (Some n) = n < 2 ^ 64

abbrev pub AnswerInRange : Answer → Type 0
AnswerInRange (told_by.Verdict v) = PairsInRange v.pairs × GrantInRange v.grant
AnswerInRange (told_by.Name name) = IsText name
AnswerInRange _ = Unit {0}

-- what an answer tells a client; a list of actions or of temporary authorizations is another body
abbrev pub told : Answer → ClientAnswer
told (told_by.Verdict v) = answer.Verdict v.yes v.challenge (details_of v)
told told_by.Done = answer.Done
told (told_by.Name name) = answer.Name name
told (told_by.Actions load locale) = answer.Other
told (told_by.Grants rows) = answer.Other
told (told_by.Refused cause) = answer.ErrorNamed (error_name cause)

-- whether an error stands in place of a reply, which would be too long
abbrev pub is_too_long : List Loaded → ℕ → Answer → Bool
is_too_long loads answered a = is_unspoken a || is_over (answering loads answered a)

-- what the reply to the call with a serial tells
abbrev pub told_of : List Loaded → ℕ → Answer → ClientAnswer
told_of loads answered a = if is_too_long loads answered a then answer.ErrorNamed LIMITS_EXCEEDED.now else told a

-- the event that an agent's reply is
abbrev pub event_for : AgentReply → ℕ → Event
event_for reply.Return to = event.Returned to
event_for reply.Failed to = event.AgentError to (codes "org.freedesktop.PolicyKit1.Error.Failed")
event_for reply.Cancelled to = event.AgentError to cancelled_name
