-- What an event changes among the agents, the grants and the challenges, said by what stands before it, and never by the outputs that answer it.
use Rattle.std.specs.Prelude.{◌≡◌, ℕ, ◌+◌, ◌==◌, Bool, true, false, not, ◌&&◌, ◌||◌, if◌then◌else◌, List, [], ◌∷◌, ◌++◌, Option, Some, is_some, option_map, bytes_eq, find, filter, map, nat_le, None, length}
use Rattle.std.specs.Option.{option_map_or}
use Rattle.pk_types.specs.Decimals.{is_empty}
use Rattle.pk_types.specs.declared.values.Subject.{Subject}
use Rattle.pk_types.specs.declared.values.Implicit.{Implicit}
use Rattle.pk_types.specs.declared.values.Identity.{Identity}
use Rattle.pk_types.specs.declared.values.Pair.{Pair}
use Rattle.entry_changes.specs.declared.change.AgentChange.{AgentChange}
use Rattle.entry_changes.specs.declared.change.GrantChange.{GrantChange}
use Rattle.entry_changes.specs.declared.change.ChallengeChange.{ChallengeChange}
use Rattle.entry_changes.specs.declared.change.EntryChange.{EntryChange}
use Rattle.authority_model.specs.declared.event.Call.{Call}
use Rattle.authority_model.specs.declared.event.Event.{Event}
use Rattle.authority_model.specs.declared.event.Event.TheVariants.{Call as Called, Returned, AgentError, Depart, Load}
use Rattle.authority_model.specs.declared.journal.Entry.{Entry}
use Rattle.authority_model.specs.declared.key.Key.{Key}
use Rattle.authority_model.specs.declared.load.Loaded.{Loaded}
use Rattle.authority_model.specs.declared.pending.Agent.{Agent}
use Rattle.authority_model.specs.declared.pending.Pending.{Pending}
use Rattle.authority_model.specs.declared.pending.TheConstants.{MAX_PENDING}
use Rattle.authority_model.specs.declared.verdict.GrantRow.{GrantRow}
use Rattle.authority_model.specs.declared.world.World.{World}
use Rattle.authority_model.specs.Lists.{Each}
use Rattle.authority_model.specs.Words.{Bytes}
use Rattle.authority_model.specs.Interaction.{allows_interaction}
use Rattle.authority_model.specs.Keys.{same_key, uid_of_key}
use Rattle.authority_model.specs.Worlds.{lists_key}
use Rattle.authority_model.specs.Facts.{Facts}
use Rattle.authority_model.specs.Admins.{allowed}
use Rattle.authority_model.specs.Rules.{action_of}
use Rattle.authority_model.specs.declared.verdict.RuleSource.{RuleSource}
use Rattle.authority_model.specs.declared.journal.Item.{Item}
use Rattle.authority_model.specs.Items.{is_load, sent, world_of, policy_of, implicit_for}
use Rattle.authority_model.specs.Peers.{live, is_root, may_for, uid_of, is_depart}
use Rattle.authority_model.specs.Subjects.{facts}
use Rattle.authority_model.specs.Agents.{agent_of, agent_for, in_force}
use Rattle.authority_model.specs.Cookies.{cookie_text, grant_text}
use Rattle.authority_model.specs.Challenges.{Begun, Question, pending, opened_count, at_agent, with_id, pending_beside, pending_at}
use Rattle.authority_model.specs.Deciding.{Decision, decided}
use Rattle.authority_model.specs.Verdicts.{offers}
use Rattle.authority_model.specs.Grants.{kept, made, made_by}
use Rattle.authority_model.specs.Trust.{trusted}
use Rattle.authority_model.specs.Steps.{◌>>=◌, guard, Apart}
use Rattle.entry_changes.specs.Finding.{is_sent, has_id, with_cookie}

-- what follows for a subject that is known and that the caller may speak for; for any other there is nothing to it
abbrev pub where_known : {A : Type 0} → List Item → ℕ → Subject → A → (Facts → A) → A
where_known past c subject nothing follow = option_map_or (λ f. if may_for past c f.uid then follow f else nothing) (facts past subject) nothing

-- whether a registration is a connection's at this path
abbrev pub is_own : ℕ → Bytes → Agent → Bool
is_own c path a = (a.caller == c) && bytes_eq a.path path

-- The agents.

-- a Register for a subject of these facts: it comes in force unless the key has an agent
abbrev pub registering : List Item → ℕ → Bytes → Bytes → Facts → AgentChange
registering past c locale path f = if is_some (agent_of f.key (in_force past)) then AgentChange.Keep else AgentChange.Add (record { caller = c; path = path; locale = locale; key = f.key })

-- an Unregister for a subject of these facts: it ends the caller's own registration with this path
abbrev pub unregistering : List Item → ℕ → Bytes → Facts → AgentChange
unregistering past c path f = option_map_or (λ a. if is_own c path a then AgentChange.Drop f.key else AgentChange.Keep) (agent_of f.key (in_force past)) AgentChange.Keep

-- what a live connection's call changes among the agents
abbrev pub agent_change_by : List Item → ℕ → Call → AgentChange
agent_change_by past c (Call.Register subject locale path) = where_known past c subject AgentChange.Keep (registering past c locale path)
agent_change_by past c (Call.Unregister subject path) = where_known past c subject AgentChange.Keep (unregistering past c path)
agent_change_by past c _ = AgentChange.Keep

-- what an event changes among the agents, beside what a departure or a load ends
abbrev pub agent_change : List Item → ℕ → Event → AgentChange
agent_change past c (Called serial quiet call) = if live past c then agent_change_by past c call else AgentChange.Keep
agent_change past c _ = AgentChange.Keep

-- The grants.

-- the revoking of a grant, expired or not, by its user or by uid 0
abbrev pub revoking : List Item → ℕ → GrantRow → GrantChange
revoking past c g = if may_for past c (uid_of_key g.key) then GrantChange.EndId g.id else GrantChange.Keep

-- the grant of this text that nothing ended; it may have expired
abbrev pub grant_named : Bytes → List GrantRow → Option GrantRow
grant_named id grants = find (λ g. bytes_eq id (grant_text g.id)) grants

-- what a live connection's call changes among the grants
abbrev pub grant_change_by : List Item → ℕ → Call → GrantChange
grant_change_by past c (Call.RevokeAll subject) = where_known past c subject GrantChange.Keep (λ f. GrantChange.EndKey f.key)
grant_change_by past c (Call.RevokeOne id) = option_map_or (revoking past c) (grant_named id (kept past)) GrantChange.Keep
grant_change_by past c _ = GrantChange.Keep

-- the grant that the return of a challenge makes, as a change
abbrev pub granting : List Item → ℕ → Pending → GrantChange
granting past t ch = option_map_or GrantChange.Add (made_by past (kept past) (made past) t ch) GrantChange.Keep

-- what an event at a moment changes among the grants, beside what a load ends
abbrev pub grant_change : List Item → ℕ → ℕ → Event → GrantChange
grant_change past c t (Called serial quiet call) = if live past c then grant_change_by past c call else GrantChange.Keep
grant_change past c t (Returned s) = if live past c then option_map_or (granting past t) (at_agent past c s) GrantChange.Keep else GrantChange.Keep
grant_change past c t _ = GrantChange.Keep

-- The challenges.

-- whether a decision is a challenge
abbrev pub is_challenge : Decision → Bool
is_challenge (Decision.Challenge value source) = true
is_challenge _ = false

-- what the Begin of the next entry with this salt tells, for a subject of these facts and a value
abbrev pub begun_next : List Item → ℕ → Facts → Implicit → Begun
begun_next past salt f value = record {
  cookie = record { serial = opened_count past + 1; salt = salt };
  identities = allowed (world_of past) (policy_of past).admins value f.uid;
}

-- the challenge that a connection's check opens as the next entry: by its question and what its Begin tells, its subject's facts, the action's value, the agent and the asker's uid
abbrev pub challenge_opened : List Item → ℕ → Question → Begun → Facts → Implicit × RuleSource → Agent → ℕ → Pending
challenge_opened past c q b f v a uid = let (value, source) = v in record {
  entry = length past;
  asker = c;
  asker_uid = uid;
  serial = q.serial;
  quiet = q.quiet;
  cancel = q.cancel;
  key = f.key;
  action = q.action;
  value = value;
  source = source;
  cookie = b.cookie;
  identities = b.identities;
  agent = a.caller;
  agent_serial = sent past a.caller + 1;
  agent_key = a.key;
  agent_path = a.path;
  answered = None;
}

-- The challenge that a live connection's check opens at a moment, if it does: the id is free, the action and the subject are known, the caller is trusted, the decision is a challenge, the flags allow it, an agent is there, and fewer checks of the caller's user are pending than may be.
abbrev pub opening : List Item → ℕ → ℕ → ℕ → Question → List Pair → ℕ → Option Pending
opening past c t salt q details flags = do
  free ← guard (not (is_some (with_id past c q.cancel)))
  action ← action_of (policy_of past) q.action
  f ← facts past q.subject
  may ← guard (trusted past c f details q.action)
  v ← implicit_for past f q.action
  due ← guard (is_challenge (decided past (kept past) f t q.action v))
  wanted ← guard (allows_interaction flags)
  agent ← agent_for past f
  room ← guard (not (nat_le MAX_PENDING (pending_beside past c)))
  option_map (challenge_opened past c q (let (value, source) = v in begun_next past salt f value) f v agent) (uid_of past c)

-- one challenge is closed
abbrev pub close_one : Pending → ChallengeChange
close_one ch = ChallengeChange.Close (ch.entry ∷ [])

-- these challenges are closed
abbrev pub close_all : List Pending → ChallengeChange
close_all [] = ChallengeChange.Keep
close_all (ch ∷ chs) = ChallengeChange.Close (map (λ x. x.entry) (ch ∷ chs))

-- a Respond to a pending challenge: the first identity that it is offered to stands
abbrev pub responding : Identity → Pending → ChallengeChange
responding identity ch = if offers ch.identities identity && not (is_some ch.answered) then ChallengeChange.Answer ch.entry identity else ChallengeChange.Keep

-- the pending checks at a registration, if it is the caller's own with this path
abbrev pub closing_at : List Item → ℕ → Bytes → Facts → Agent → ChallengeChange
closing_at past c path f a = if is_own c path a then close_all (pending_at past c f.key) else ChallengeChange.Keep

-- what a live connection's call changes among the challenges
abbrev pub challenge_change_by : List Item → ℕ → ℕ → ℕ → ℕ → Bool → Call → ChallengeChange
challenge_change_by past c t salt serial quiet (Call.Check subject action details flags cancel) = option_map_or ChallengeChange.Begun (opening past c t salt (record { serial = serial; quiet = quiet; subject = subject; action = action; cancel = cancel }) details flags) ChallengeChange.Keep
challenge_change_by past c t salt serial quiet (Call.Cancel id) = option_map_or close_one (with_id past c id) ChallengeChange.Keep
challenge_change_by past c t salt serial quiet (Call.Unregister subject path) = where_known past c subject ChallengeChange.Keep (λ f. option_map_or (closing_at past c path f) (agent_of f.key (in_force past)) ChallengeChange.Keep)
challenge_change_by past c t salt serial quiet (Call.Respond cookie identity) = if is_root past c then option_map_or (responding identity) (with_cookie cookie (pending past)) ChallengeChange.Keep else ChallengeChange.Keep
challenge_change_by past c t salt serial quiet _ = ChallengeChange.Keep

-- whether a challenge is of a connection: it asked, or it is the agent
abbrev pub is_between : ℕ → Pending → Bool
is_between c ch = (ch.asker == c) || (ch.agent == c)

-- whether a world lists the subject of a challenge and its agent's
abbrev pub stays_listed : World → Pending → Bool
stays_listed world ch = lists_key world ch.key && lists_key world ch.agent_key

-- what an event at a moment with this salt changes among the challenges; a load comes with its value
abbrev pub challenge_change : List Item → ℕ → ℕ → ℕ → Event → Option Loaded → ChallengeChange
challenge_change past c t salt (Called serial quiet call) loaded = if live past c then challenge_change_by past c t salt serial quiet call else ChallengeChange.Keep
challenge_change past c t salt (Returned s) loaded = if live past c then option_map_or close_one (at_agent past c s) ChallengeChange.Keep else ChallengeChange.Keep
challenge_change past c t salt (AgentError s name) loaded = if live past c then option_map_or close_one (at_agent past c s) ChallengeChange.Keep else ChallengeChange.Keep
challenge_change past c t salt Depart loaded = if live past c then close_all (filter (is_between c) (pending past)) else ChallengeChange.Keep
challenge_change past c t salt (Load load) loaded = option_map_or (λ l. close_all (filter (λ ch. not (stays_listed l.world ch)) (pending past))) loaded ChallengeChange.Keep
challenge_change past c t salt _ loaded = ChallengeChange.Keep

-- What an event of caller c at moment t with this salt changes, after the past; a load comes with its value.
abbrev pub entry_change : List Item → ℕ → ℕ → ℕ → Event → Option Loaded → EntryChange
entry_change past c t salt event loaded = record { agent = agent_change past c event; grant = grant_change past c t event; challenge = challenge_change past c t salt event loaded }

-- What a change makes of the lists.

-- whether an entry is a connection's departure
abbrev pub leaves : Entry → ℕ → Bool
leaves e c = (e.caller == c) && is_depart e.event

-- whether an entry is a load, and the world, which is that of the load, does not list the key
abbrev pub unlisted : Entry → World → Key → Bool
unlisted e world key = is_load e.event && not (lists_key world key)

-- the agents with a change
abbrev pub with_agent : AgentChange → List Agent → List Agent
with_agent AgentChange.Keep agents = agents
with_agent (AgentChange.Add a) agents = agents ++ a ∷ []
with_agent (AgentChange.Drop key) agents = filter (λ a. not (same_key a.key key)) agents

-- the agents after an entry with a change, in the world that is then in force
abbrev pub after_agents : Entry → World → AgentChange → List Agent → List Agent
after_agents e world change agents = with_agent change (filter (λ a. not (leaves e a.caller || unlisted e world a.key)) agents)

-- the grants with a change
abbrev pub with_grant : GrantChange → List GrantRow → List GrantRow
with_grant GrantChange.Keep grants = grants
with_grant (GrantChange.Add g) grants = grants ++ g ∷ []
with_grant (GrantChange.EndId id) grants = filter (λ g. not (g.id == id)) grants
with_grant (GrantChange.EndKey key) grants = filter (λ g. not (same_key g.key key)) grants

-- the grants after an entry with a change, in the world that is then in force
abbrev pub after_grants : Entry → World → GrantChange → List GrantRow → List GrantRow
after_grants e world change grants = with_grant change (filter (λ g. not (unlisted e world g.key)) grants)

-- whether the entry of this place opened a challenge
abbrev pub is_of_entry : ℕ → Pending → Bool
is_of_entry e ch = e == ch.entry

-- whether two challenges could be mistaken for each other: they have the entry, the cookie's text, the place at the agent or the asker's id in common
abbrev pub clash : Pending → Pending → Bool
clash x y = is_of_entry x.entry y || bytes_eq (cookie_text y.cookie) (cookie_text x.cookie) || is_sent x.agent x.agent_serial y || (not (is_empty x.cancel) && has_id x.asker x.cancel y)

-- a challenge could be mistaken for none of these
abbrev pub IsFresh : Pending → List Pending → Type 0
IsFresh row items = Each (λ ch. clash ch row ≡ false) items

-- no two of these could be mistaken for each other
abbrev pub AreApart : List Pending → Type 0
AreApart items = Apart clash items

-- the challenges without the one that an entry opened
abbrev pub without : ℕ → List Pending → List Pending
without e items = filter (λ ch. not (is_of_entry e ch)) items

-- the same of several entries
abbrev pub without_all : List ℕ → List Pending → List Pending
without_all [] items = items
without_all (e ∷ es) items = without_all es (without e items)

-- a challenge, with this answer where the entry opened it
abbrev pub answered_by : ℕ → Identity → Pending → Pending
answered_by e identity ch = if is_of_entry e ch then record ch { answered = Some identity } else ch

-- the challenges after a change
abbrev pub after_challenges : ChallengeChange → List Pending → List Pending
after_challenges ChallengeChange.Keep items = items
after_challenges (ChallengeChange.Begun row) items = items ++ row ∷ []
after_challenges (ChallengeChange.Answer e identity) items = map (answered_by e identity) items
after_challenges (ChallengeChange.Close es) items = without_all es items
