-- What a call is answered and changes once its subject, its grant or its challenge is found.
use Rattle.std.specs.Prelude.{ℕ, Bool, not, List, [], ◌++◌, Option, option_to_list, is_some, flat_map, bytes_eq, if◌then◌else◌}
use Rattle.std.specs.Option.{option_map_or}
use Rattle.pk_types.specs.declared.values.Identity.{Identity}
use Rattle.entry_changes.specs.declared.change.ChallengeChange.{ChallengeChange}
use Rattle.entry_changes.specs.declared.change.EntryChange.{EntryChange}
use Rattle.authority_model.specs.declared.journal.Item.{Item}
use Rattle.authority_model.specs.declared.key.Key.{Key}
use Rattle.authority_model.specs.declared.message.Answer.{Answer}
use Rattle.authority_model.specs.declared.message.ErrorCause.{ErrorCause}
use Rattle.authority_model.specs.declared.message.Output.{Output}
use Rattle.authority_model.specs.declared.pending.Agent.{Agent}
use Rattle.authority_model.specs.declared.pending.Pending.{Pending}
use Rattle.authority_model.specs.declared.verdict.GrantRow.{GrantRow}
use Rattle.authority_model.specs.declared.verdict.Reason.{Reason}
use Rattle.authority_model.specs.Agents.{agent_of, in_force}
use Rattle.authority_model.specs.Answers.{answer_revoke, answer_unregister, cancelled_name, changed, live_grants, refuse, reply_agent_gone}
use Rattle.authority_model.specs.Challenges.{pending_at}
use Rattle.authority_model.specs.Deciding.{is_live_at}
use Rattle.authority_model.specs.Facts.{Facts}
use Rattle.authority_model.specs.Grants.{kept}
use Rattle.authority_model.specs.Lists.{any_of}
use Rattle.authority_model.specs.Words.{Bytes}
use Rattle.entry_changes.specs.Changes.{registering}
use Rattle.event_answers.specs.Asked.{is_live_for, live_row, of_agents, reply_of, unchanged, unregistering_at}
use Rattle.event_answers.specs.declared.asking.Asking.{Asking}

-- the registration by a connection of a subject of these facts
abbrev pub registration_by : ℕ → Bytes → Bytes → Facts → Agent
registration_by c locale path f = record { caller = c; path = path; locale = locale; key = f.key }

-- a Register for a subject of these facts: AgentExists where its key has an agent, or done
abbrev pub register_told : Asking → Facts → List Item → List Output
register_told x f past = if is_some (agent_of f.key (in_force past)) then refuse (reply_of x.to) ErrorCause.AgentExists else reply_of x.to Answer.Done

-- what it changes
abbrev pub register_changes : Asking → Bytes → Bytes → Facts → List Item → EntryChange
register_changes x locale path f past = of_agents (registering past x.to.caller locale path f)

-- the end of the caller's registration of a subject of these facts
abbrev pub registration_end_told : Asking → Facts → List Item → List Output
registration_end_told x f past = flat_map reply_agent_gone (pending_at past x.to.caller f.key) ++ reply_of x.to Answer.Done

-- an Unregister for a subject of these facts, whose key has this agent
abbrev pub unregister_told_at : Asking → Bytes → Facts → Agent → List Item → List Output
unregister_told_at x path f a past = answer_unregister past x.to.caller path (reply_of x.to) f a

-- what it changes
abbrev pub unregister_changes_at : Asking → Bytes → Facts → Agent → List Item → EntryChange
unregister_changes_at x path f a past = unregistering_at past x.to.caller path f a

-- an Unregister for a subject of these facts: NoSuchAgent where its key has no agent
abbrev pub unregister_told : Asking → Bytes → Facts → List Item → List Output
unregister_told x path f past = option_map_or (λ a. unregister_told_at x path f a past) (agent_of f.key (in_force past)) (refuse (reply_of x.to) ErrorCause.NoSuchAgent)

-- what it changes
abbrev pub unregister_changes : Asking → Bytes → Facts → List Item → EntryChange
unregister_changes x path f past = option_map_or (λ a. unregister_changes_at x path f a past) (agent_of f.key (in_force past)) unchanged

-- an EnumerateGrants for a subject of these facts
abbrev pub grants_told : Asking → Facts → List Item → List Output
grants_told x f past = reply_of x.to (Answer.Grants (live_grants past x.occasion.moment f.key))

-- the call was done, and the live connections are told if something changed
abbrev pub done_told : Asking → Bool → List Item → List Output
done_told x has_changed past = reply_of x.to Answer.Done ++ (if has_changed then changed past else [])

-- a RevokeAll for a subject of these facts: the live connections are told if a grant of its key was live
abbrev pub revoke_all_told : Asking → Facts → List Item → List Output
revoke_all_told x f past = done_told x (any_of (is_live_for f.key x.occasion.moment) (kept past)) past

-- a RevokeOne that names this grant, which nothing ended: NoSuchGrant where it has expired
abbrev pub revoke_one_told : Asking → GrantRow → List Item → List Output
revoke_one_told x g past = if is_live_at x.occasion.moment g then answer_revoke past x.to.caller (reply_of x.to) g else refuse (reply_of x.to) ErrorCause.NoSuchGrant

-- the grant, if there is one, where it is for a key and has not expired at a moment
abbrev pub live_among : Key → ℕ → Option GrantRow → List GrantRow
live_among key t grant = flat_map (live_row key t) (option_to_list grant)

-- the live connections are told if a grant was made
abbrev pub told_of_grant : Option ℕ → List Item → List Output
told_of_grant number past = if is_some number then changed past else []

-- an identity answers a challenge, unless one has before
abbrev pub first_answer : Identity → Pending → ChallengeChange
first_answer identity ch = if not (is_some ch.answered) then ChallengeChange.Answer ch.entry identity else ChallengeChange.Keep

-- why a challenge ends where its agent answers with an error of this name
abbrev pub reason_of_error : Bytes → Reason
reason_of_error name = if bytes_eq name cancelled_name then Reason.Dismissed else Reason.Challenge
