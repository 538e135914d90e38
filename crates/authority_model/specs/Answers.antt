-- What each event is answered. The causes of a refusal stand in the order in which they are judged.
use Rattle.std.specs.Prelude.{ℕ, ◌+◌, ◌==◌, Bool, true, false, not, ◌&&◌, ◌||◌, if◌then◌else◌, List, [], ◌∷◌, ◌++◌, Option, Some, None, is_some, unwrap_or, bytes_eq, find, filter, map, codes, nat_le, flat_map}
use Rattle.std.specs.Option.{option_map_or}
use Rattle.pk_types.specs.declared.values.Subject.{Subject}
use Rattle.pk_types.specs.declared.values.Implicit.{Implicit}
use Rattle.pk_types.specs.declared.values.Identity.{Identity}
use Rattle.pk_types.specs.declared.values.Pair.{Pair}
use Rattle.authority_model.specs.declared.event.Call.{Call}
use Rattle.authority_model.specs.declared.event.Event.{Event}
use Rattle.authority_model.specs.declared.event.Event.TheVariants.{Connect, Call as Called, Returned, AgentError, Passed, Depart, Load, LoadFailed, Stop, Collect}
use Rattle.authority_model.specs.declared.key.Key.{Key}
use Rattle.authority_model.specs.declared.message.ErrorCause.{ErrorCause}
use Rattle.authority_model.specs.declared.message.Answer.{Answer}
use Rattle.authority_model.specs.declared.message.Message.{Message}
use Rattle.authority_model.specs.declared.message.Output.{Output}
use Rattle.authority_model.specs.declared.verdict.GrantRow.{GrantRow}
use Rattle.authority_model.specs.declared.verdict.Reason.{Reason}
use Rattle.authority_model.specs.declared.verdict.RuleSource.{RuleSource}
use Rattle.authority_model.specs.declared.verdict.Verdict.{Verdict}
use Rattle.authority_model.specs.declared.load.Loaded.{Loaded}
use Rattle.authority_model.specs.declared.world.World.{World}
use Rattle.authority_model.specs.declared.policy.Action.{Action}
use Rattle.authority_model.specs.declared.pending.Agent.{Agent}
use Rattle.authority_model.specs.declared.pending.Pending.{Pending}
use Rattle.authority_model.specs.declared.pending.TheConstants.{MAX_PENDING}
use Rattle.authority_model.specs.Lists.{any_of}
use Rattle.authority_model.specs.Words.{Bytes, bus_name}
use Rattle.authority_model.specs.Interaction.{allows_interaction}
use Rattle.authority_model.specs.Keys.{same_key, uid_of_key}
use Rattle.authority_model.specs.Worlds.{lists_key}
use Rattle.authority_model.specs.Facts.{Facts}
use Rattle.authority_model.specs.Admins.{allowed}
use Rattle.authority_model.specs.Rules.{action_of}
use Rattle.authority_model.specs.Items.{Item, world_of, policy_of, implicit_for}
use Rattle.authority_model.specs.Peers.{live, is_root, may_for, live_connections, accepts_announce}
use Rattle.authority_model.specs.Subjects.{facts}
use Rattle.authority_model.specs.Agents.{agent_of, agent_for, in_force}
use Rattle.authority_model.specs.Cookies.{cookie_text, grant_text}
use Rattle.authority_model.specs.Challenges.{pending, opened_count, at_agent, with_id, pending_beside, pending_at}
use Rattle.authority_model.specs.Deciding.{Decision, decided, is_live_at}
use Rattle.authority_model.specs.Verdicts.{no_by, verdict_of, offers, return_verdict}
use Rattle.authority_model.specs.Grants.{kept, made}
use Rattle.authority_model.specs.Trust.{trusted}
use Rattle.authority_model.specs.Locales.{localized_text}

-- the reply to a call: none to a quiet call, or to one with the serial 0
abbrev pub reply : ℕ → ℕ → Bool → Answer → List Output
reply c serial quiet answer = if quiet || (serial == 0) then [] else record { to = c; message = Message.Reply serial answer } ∷ []

-- the reply to the check that opened a challenge
abbrev pub reply_to : Pending → Answer → List Output
reply_to ch answer = reply ch.asker ch.serial ch.quiet answer

-- the agent is told that its challenge has ended
abbrev pub cancel_begin : Pending → List Output
cancel_begin ch = record { to = ch.agent; message = Message.CancelBegin ch.agent_path ch.cookie } ∷ []

-- one Changed to each live caller, by rising number
abbrev pub changed : List Item → List Output
changed past = map (λ c. record { to = c; message = Message.Changed }) (live_connections past)

-- the Begin that asks an agent: its cookie has the next number and the entry's salt
abbrev pub begin_to : List Item → ℕ → Facts → Agent → Action → Implicit → List Pair → Output
begin_to past salt f agent a value details = record {
  to = agent.caller;
  message = Message.Begin agent.path a.id (unwrap_or (localized_text a.messages agent.locale) []) a.icon details (record { serial = opened_count past + 1; salt = salt }) (allowed (world_of past) (policy_of past).admins value f.uid);
}

-- the agent is asked, and no reply is sent yet
abbrev pub ask : List Item → ℕ → Facts → Agent → Action → Implicit → List Pair → List Output
ask past salt f agent a value details = begin_to past salt f agent a value details ∷ []

-- Below, `say` sends an answer to the call, as its reply.

-- a refusal for this cause
abbrev pub refuse : (Answer → List Output) → ErrorCause → List Output
refuse say cause = say (Answer.Refused cause)

-- What a challenge comes to: with the flag, and where there is an agent, it is asked, unless the caller's user has as many pending checks as are allowed. Else it is answered as a challenge.
abbrev pub tell_challenge : List Item → ℕ → ℕ → Facts → Action → List Pair → (Answer → List Output) → Implicit → RuleSource → Bool → Option Agent → List Output
tell_challenge past c salt f a details say value source true (Some agent) = if nat_le MAX_PENDING (pending_beside past c) then refuse say ErrorCause.TooManyPending else ask past salt f agent a value details
tell_challenge past c salt f a details say value source true None = say (Answer.Verdict (verdict_of past (Decision.Challenge value source)))
tell_challenge past c salt f a details say value source false agent = say (Answer.Verdict (verdict_of past (Decision.Challenge value source)))

-- what a check is answered by its decision; a challenge is asked where the flags allow it
abbrev pub tell : List Item → ℕ → ℕ → Facts → Action → List Pair → ℕ → (Answer → List Output) → Decision → List Output
tell past c salt f a details flags say (Decision.Challenge value source) = tell_challenge past c salt f a details say value source (allows_interaction flags) (agent_for past f)
tell past c salt f a details flags say d = say (Answer.Verdict (verdict_of past d))

-- a check of a known action by a subject of these facts: NotTrusted, or its decision
abbrev pub answer_for : List Item → ℕ → ℕ → ℕ → Bytes → List Pair → ℕ → (Answer → List Output) → Action → Facts → List Output
answer_for past c t salt action details flags say a f = if trusted past c f details action then option_map_or (λ v. tell past c salt f a details flags say (decided past (kept past) f t action v)) (implicit_for past f action) [] else refuse say ErrorCause.NotTrusted

-- a check of a known action: UnknownSubject, and what follows
abbrev pub answer_known : List Item → ℕ → ℕ → ℕ → Subject → Bytes → List Pair → ℕ → (Answer → List Output) → Action → List Output
answer_known past c t salt subject action details flags say a = option_map_or (answer_for past c t salt action details flags say a) (facts past subject) (refuse say ErrorCause.UnknownSubject)

-- a check: IdInUse, UnknownAction, and what follows
abbrev pub answer_check : List Item → ℕ → ℕ → ℕ → Subject → Bytes → List Pair → ℕ → Bytes → (Answer → List Output) → List Output
answer_check past c t salt subject action details flags cancel say =
    if is_some (with_id past c cancel) then refuse say ErrorCause.IdInUse
    else option_map_or (answer_known past c t salt subject action details flags say) (action_of (policy_of past) action) (refuse say ErrorCause.UnknownAction)

-- what follows for a subject that is known and that the caller may speak for: UnknownSubject and NotYours come before it
abbrev pub for_known : List Item → ℕ → Subject → (Answer → List Output) → (Facts → List Output) → List Output
for_known past c subject say follow = option_map_or (λ f. if may_for past c f.uid then follow f else refuse say ErrorCause.NotYours) (facts past subject) (refuse say ErrorCause.UnknownSubject)

-- the reply to a check whose agent is gone
abbrev pub reply_agent_gone : Pending → List Output
reply_agent_gone ch = reply_to ch (Answer.Verdict (no_by Reason.AgentGone))

-- an Unregister where the key has this agent: NoSuchAgent unless it is the caller's with this path; its pending checks are answered
abbrev pub answer_unregister : List Item → ℕ → Bytes → (Answer → List Output) → Facts → Agent → List Output
answer_unregister past c path say f a = if (a.caller == c) && bytes_eq a.path path then flat_map reply_agent_gone (pending_at past c f.key) ++ say Answer.Done else refuse say ErrorCause.NoSuchAgent

-- the cancelling of a pending check: it is answered, its agent is told, and the canceller too
abbrev pub answer_cancel : (Answer → List Output) → Pending → List Output
answer_cancel say ch = reply_to ch (Answer.Refused ErrorCause.Cancelled) ++ cancel_begin ch ++ say Answer.Done

-- a Respond to a pending challenge: NotOffered, or done
abbrev pub answer_respond : Identity → (Answer → List Output) → Pending → List Output
answer_respond identity say ch = if offers ch.identities identity then say Answer.Done else refuse say ErrorCause.NotOffered

-- the revoking of one grant: NotYours, or done
abbrev pub answer_revoke : List Item → ℕ → (Answer → List Output) → GrantRow → List Output
answer_revoke past c say g = if may_for past c (uid_of_key g.key) then say Answer.Done ++ changed past else refuse say ErrorCause.NotYours

-- the live grants of a key at a moment, by rising number
abbrev pub live_grants : List Item → ℕ → Key → List GrantRow
live_grants past t key = filter (λ g. same_key g.key key && is_live_at t g) (kept past)

-- how many loads there were, which is the number of the last one
abbrev pub loads : List Item → ℕ
loads [] = 0
loads (i ∷ past) = loads past + (if is_some i.loaded then 1 else 0)

-- the outputs of a call by a live connection
abbrev pub answer_call : List Item → ℕ → ℕ → ℕ → (Answer → List Output) → Call → List Output
answer_call past c t salt say (Call.Announce pid start) = if accepts_announce past c pid start then say (Answer.Name (bus_name c)) else refuse say ErrorCause.BadAnnounce
answer_call past c t salt say (Call.Check subject action details flags cancel) = answer_check past c t salt subject action details flags cancel say
answer_call past c t salt say (Call.Cancel id) = option_map_or (answer_cancel say) (with_id past c id) (refuse say ErrorCause.NoSuchId)
answer_call past c t salt say (Call.Register subject locale path) = for_known past c subject say (λ f. if is_some (agent_of f.key (in_force past)) then refuse say ErrorCause.AgentExists else say Answer.Done)
answer_call past c t salt say (Call.Unregister subject path) = for_known past c subject say (λ f. option_map_or (answer_unregister past c path say f) (agent_of f.key (in_force past)) (refuse say ErrorCause.NoSuchAgent))
answer_call past c t salt say (Call.Respond cookie identity) = if not (is_root past c) then refuse say ErrorCause.NotPrivileged else option_map_or (answer_respond identity say) (find (λ ch. bytes_eq (cookie_text ch.cookie) cookie) (pending past)) (refuse say ErrorCause.NoSuchCookie)
answer_call past c t salt say (Call.EnumerateActions locale) = say (Answer.Actions (loads past) locale)
answer_call past c t salt say (Call.EnumerateGrants subject) = for_known past c subject say (λ f. say (Answer.Grants (live_grants past t f.key)))
answer_call past c t salt say (Call.RevokeAll subject) = for_known past c subject say (λ f. say Answer.Done ++ (if any_of (λ g. same_key g.key f.key && is_live_at t g) (kept past) then changed past else []))
answer_call past c t salt say (Call.RevokeOne id) = option_map_or (answer_revoke past c say) (find (λ g. bytes_eq id (grant_text g.id) && is_live_at t g) (kept past)) (refuse say ErrorCause.NoSuchGrant)
answer_call past c t salt say Call.Reload = if is_root past c then say Answer.Done ++ record { to = 0; message = Message.LoadWanted } ∷ [] else refuse say ErrorCause.NotPrivileged
answer_call past c t salt say (Call.Wrong cause) = refuse say cause

-- the outputs of a return with this verdict: the reply to the check, and Changed where a grant was made
abbrev pub tell_return : List Item → Pending → Verdict → List Output
tell_return past ch v = reply_to ch (Answer.Verdict v) ++ (if is_some v.grant then changed past else [])

-- the outputs of a return that closes this challenge
abbrev pub answer_return : List Item → ℕ → Pending → List Output
answer_return past t ch = tell_return past ch (return_verdict past (kept past) (made past) t ch)

-- the error by which an agent says that the user dismissed its dialogue
abbrev pub cancelled_name : Bytes
cancelled_name = codes "org.freedesktop.PolicyKit1.Error.Cancelled"

-- the outputs of an agent's error that closes this challenge: no, whether it was answered or not
abbrev pub answer_error : Bytes → Pending → List Output
answer_error name ch = reply_to ch (Answer.Verdict (no_by (if bytes_eq name cancelled_name then Reason.Dismissed else Reason.Challenge)))

-- what the departure of a caller means for a pending check: its agent, if it is another one, is told that its asker is gone, and another asker that its agent is gone
abbrev pub answer_departed : ℕ → Pending → List Output
answer_departed c ch = if ch.asker == c then (if ch.agent == c then [] else cancel_begin ch) else (if ch.agent == c then reply_agent_gone ch else [])

-- what a load of this world means for a pending check: its subject or its agent may be gone
abbrev pub answer_loaded : World → Pending → List Output
answer_loaded world ch = if lists_key world ch.key then (if lists_key world ch.agent_key then [] else reply_agent_gone ch) else reply_to ch (Answer.Verdict (no_by Reason.SubjectGone)) ++ cancel_begin ch

-- The outputs of an event of caller c at moment t with this salt, after the past; a load comes with its value. A caller that is not live is answered nothing.
abbrev pub answers : List Item → ℕ → ℕ → ℕ → Event → Option Loaded → List Output
answers past c t salt (Called serial quiet call) loaded = if live past c then answer_call past c t salt (reply c serial quiet) call else []
answers past c t salt (Returned s) loaded = if live past c then option_map_or (answer_return past t) (at_agent past c s) [] else []
answers past c t salt (AgentError s name) loaded = if live past c then option_map_or (answer_error name) (at_agent past c s) [] else []
answers past c t salt Depart loaded = if live past c then flat_map (answer_departed c) (pending past) else []
answers past c t salt (Load load) loaded = option_map_or (λ l. flat_map (answer_loaded l.world) (pending past) ++ changed past) loaded []
answers past c t salt Stop loaded = record { to = 0; message = Message.StopWanted } ∷ []
answers past c t salt (Connect uid) loaded = []
answers past c t salt Passed loaded = []
answers past c t salt (LoadFailed code) loaded = []
answers past c t salt (Collect of) loaded = []
