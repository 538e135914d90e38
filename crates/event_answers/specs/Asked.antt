-- Who asks, and what its call is answered and changes.
use Rattle.std.specs.Prelude.{◌≡◌, ℕ, ◌&&◌, Bool, false, List, Option, Some, None, option_and_then, option_map, Result, Ok, Err, IfOk, [], ◌∷◌, if◌then◌else◌}
use Rattle.std.specs.Option.{option_map_or}
use Rattle.pk_types.specs.declared.values.Subject.{Subject}
use Rattle.entry_changes.specs.declared.change.AgentChange.{AgentChange}
use Rattle.entry_changes.specs.declared.change.GrantChange.{GrantChange}
use Rattle.entry_changes.specs.declared.change.ChallengeChange.{ChallengeChange}
use Rattle.entry_changes.specs.declared.change.EntryChange.{EntryChange}
use Rattle.authority_model.specs.declared.event.Call.{Call}
use Rattle.authority_model.specs.declared.event.Event.{Event}
use Rattle.authority_model.specs.declared.journal.Item.{Item}
use Rattle.authority_model.specs.declared.key.Key.{Key}
use Rattle.authority_model.specs.declared.message.Answer.{Answer}
use Rattle.authority_model.specs.declared.message.ErrorCause.{ErrorCause}
use Rattle.authority_model.specs.declared.message.Message.{Message}
use Rattle.authority_model.specs.declared.message.Output.{Output}
use Rattle.entry_changes.specs.declared.peer.Peer.{Peer}
use Rattle.authority_model.specs.declared.pending.Agent.{Agent}
use Rattle.authority_model.specs.declared.pending.Pending.{Pending}
use Rattle.authority_model.specs.declared.verdict.GrantRow.{GrantRow}
use Rattle.authority_model.specs.Answers.{reply, answer_call, answers}
use Rattle.entry_changes.specs.Changes.{is_own, agent_change_by, granting, grant_change_by, close_one, closing_at, challenge_change_by, entry_change}
use Rattle.authority_model.specs.Deciding.{is_live_at}
use Rattle.authority_model.specs.Facts.{Facts}
use Rattle.authority_model.specs.Grants.{grant_row}
use Rattle.authority_model.specs.Keys.{same_key}
use Rattle.entry_changes.specs.Known.{known}
use Rattle.authority_model.specs.Peers.{may_for}
use Rattle.authority_model.specs.Subjects.{facts}
use Rattle.authority_model.specs.Words.{Bytes}
use Rattle.journal_view.specs.Seen.{Seen, IsSeenOf}
use Rattle.event_answers.specs.declared.answered.Answered.{Answered}
use Rattle.event_answers.specs.declared.asking.Asking.{Asking}
use Rattle.event_answers.specs.declared.asking.Occasion.{Occasion}
use Rattle.event_answers.specs.declared.asking.ReplyTo.{ReplyTo}

-- the outputs of an answer to the call
abbrev pub reply_of : ReplyTo → Answer → List Output
reply_of to = reply to.caller to.serial to.quiet

-- this is known of a connection, and it is live
pub record IsLivePeer (past : List Item) (c : ℕ) (p : Peer) : Type 0 where
  pub known : known past c ≡ Some p
  pub present : p.departed ≡ false

-- the row of a connection, if it has not departed
abbrev pub if_present : Option Peer → Option Peer
if_present peer = option_and_then (λ p. if p.departed then None else Some p) peer

-- after this history, of which a view tells this, a live connection asks
pub record IsAsked (past : List Item) (s : Seen) (x : Asking) : Type 0 where
  pub seen : IsSeenOf past s
  pub caller : IsLivePeer past x.to.caller x.peer

-- a value is what each history says of which the row of the caller is told
abbrev pub IsOfCaller : {A : Type 0} → Asking → A → (List Item → A) → Type 0
IsOfCaller x value of = (past : List Item) → IsLivePeer past x.to.caller x.peer → value ≡ of past

-- a value is what each history says that a view shows and after which a live connection asks
abbrev pub IsOfAsked : {A : Type 0} → Seen → Asking → A → (List Item → A) → Type 0
IsOfAsked s x value of = (past : List Item) → IsAsked past s x → value ≡ of past

-- the answer has the outputs that each history says that a view shows
abbrev pub Tells : {E : Type 0} → Seen → Result Answered E → (List Item → List Output) → Type 0
Tells s answer outputs = (past : List Item) → IsSeenOf past s → IfOk answer (λ a. a.outputs ≡ outputs past)

-- the answer changes what each history says that a view shows
abbrev pub Changes : {E : Type 0} → Seen → Result Answered E → (List Item → EntryChange) → Type 0
Changes s answer change = (past : List Item) → IsSeenOf past s → IfOk answer (λ a. a.change ≡ change past)

-- the answer to an event at an occasion has the outputs that the definitions say
abbrev pub AnswersEvent : {E : Type 0} → Seen → ℕ → Occasion → Event → Result Answered E → Type 0
AnswersEvent s c at event answer = Tells s answer (λ past. answers past c at.moment at.salt event None)

-- an event at an occasion changes what the definitions say
abbrev pub ChangesByEvent : {E : Type 0} → Seen → ℕ → Occasion → Event → Result Answered E → Type 0
ChangesByEvent s c at event answer = Changes s answer (λ past. entry_change past c at.moment at.salt event None)

-- the answer to a live connection that asks has the outputs that each history says that a view shows
abbrev pub TellsAsker : {E : Type 0} → Seen → Asking → Result Answered E → (List Item → List Output) → Type 0
TellsAsker s x answer outputs = (past : List Item) → IsAsked past s x → IfOk answer (λ a. a.outputs ≡ outputs past)

-- the answer to a live connection that asks changes what each history says that a view shows
abbrev pub ChangesAsked : {E : Type 0} → Seen → Asking → Result Answered E → (List Item → EntryChange) → Type 0
ChangesAsked s x answer change = (past : List Item) → IsAsked past s x → IfOk answer (λ a. a.change ≡ change past)

-- what is made for a live connection that asks is what each history says that a view shows
abbrev pub GivesAsked : {A E : Type 0} → Seen → Asking → Result A E → (List Item → A) → Type 0
GivesAsked s x made of = (past : List Item) → IsAsked past s x → IfOk made (λ a. a ≡ of past)

-- what the call is answered
abbrev pub call_outputs : List Item → Asking → Call → List Output
call_outputs past x = answer_call past x.to.caller x.occasion.moment x.occasion.salt (reply_of x.to)

-- what the call changes
abbrev pub call_change : List Item → Asking → Call → EntryChange
call_change past x call = record {
  agent = agent_change_by past x.to.caller call;
  grant = grant_change_by past x.to.caller call;
  challenge = challenge_change_by past x.to.caller x.occasion.moment x.occasion.salt x.to.serial x.to.quiet call;
}

-- the answer to a call has the outputs that the definitions say
abbrev pub AnswersCall : {E : Type 0} → Seen → Asking → Call → Result Answered E → Type 0
AnswersCall s x call answer = TellsAsker s x answer (λ past. call_outputs past x call)

-- a call changes what the definitions say
abbrev pub ChangesByCall : {E : Type 0} → Seen → Asking → Call → Result Answered E → Type 0
ChangesByCall s x call answer = ChangesAsked s x answer (λ past. call_change past x call)

-- nothing is changed
abbrev pub unchanged : EntryChange
unchanged = record { agent = AgentChange.Keep; grant = GrantChange.Keep; challenge = ChallengeChange.Keep }

-- a change among the agents alone
abbrev pub of_agents : AgentChange → EntryChange
of_agents change = record { agent = change; grant = GrantChange.Keep; challenge = ChallengeChange.Keep }

-- a change among the grants alone
abbrev pub of_grants : GrantChange → EntryChange
of_grants change = record { agent = AgentChange.Keep; grant = change; challenge = ChallengeChange.Keep }

-- a change among the challenges alone
abbrev pub of_challenges : ChallengeChange → EntryChange
of_challenges change = record { agent = AgentChange.Keep; grant = GrantChange.Keep; challenge = change }

-- what an Unregister for a subject of these facts changes, where the key has this agent
abbrev pub unregistering_at : List Item → ℕ → Bytes → Facts → Agent → EntryChange
unregistering_at past c path f a = record {
  agent = if is_own c path a then AgentChange.Drop f.key else AgentChange.Keep;
  grant = GrantChange.Keep;
  challenge = closing_at past c path f a;
}

-- the facts of a subject that is known and that a caller may speak for, or why the call is refused
abbrev pub permitted : List Item → ℕ → Subject → Result Facts ErrorCause
permitted past c subject = option_map_or (λ f. if may_for past c f.uid then Ok f else Err ErrorCause.NotYours) (facts past subject) (Err ErrorCause.UnknownSubject)

-- whether a grant is for a key and has not expired at a moment
abbrev pub is_live_for : Key → ℕ → GrantRow → Bool
is_live_for key t g = same_key g.key key && is_live_at t g

-- a connection is told that something changed
abbrev pub changed_now : ℕ → Output
changed_now c = record { to = c; message = Message.Changed }

-- the grant itself, if it is for a key and has not expired at a moment
abbrev pub live_row : Key → ℕ → GrantRow → List GrantRow
live_row key t g = if is_live_for key t g then g ∷ [] else []

-- what a return of a challenge at a moment changes
abbrev pub returning : List Item → ℕ → Pending → EntryChange
returning past t ch = record { agent = AgentChange.Keep; grant = granting past t ch; challenge = close_one ch }

-- the grant with this number, if there is one, that a challenge makes at a moment
abbrev pub grant_added : Pending → ℕ → Option ℕ → GrantChange
grant_added ch t number = option_map_or GrantChange.Add (option_map (grant_row ch t) number) GrantChange.Keep

-- what the return of a challenge at a moment changes, where it makes the grant with this number, if there is one
abbrev pub returning_with : Option ℕ → ℕ → Pending → EntryChange
returning_with number t ch = record { agent = AgentChange.Keep; grant = grant_added ch t number; challenge = close_one ch }
