-- Challenges: which were opened, which of them are pending, and how they were answered.
use Rattle.std.specs.Prelude.{ℕ, ◌+◌, ◌==◌, Bool, false, not, ◌&&◌, ◌||◌, if◌then◌else◌, List, [], ◌∷◌, ◌++◌, Option, Some, None, option_map, option_and_then, option_to_list, bytes_eq, find, filter, length, map}
use Rattle.std.specs.Option.{option_map_or}
use Rattle.pk_types.specs.Decimals.{is_empty}
use Rattle.pk_types.specs.declared.values.Subject.{Subject}
use Rattle.pk_types.specs.declared.values.Implicit.{Implicit}
use Rattle.pk_types.specs.declared.values.Identity.{Identity}
use Rattle.authority_model.specs.declared.event.Call.{Call}
use Rattle.authority_model.specs.declared.event.Event.{Event}
use Rattle.authority_model.specs.declared.event.Event.TheVariants.{Call as Called, Returned, AgentError}
use Rattle.authority_model.specs.declared.key.Key.{Key}
use Rattle.authority_model.specs.declared.verdict.Cookie.{Cookie}
use Rattle.authority_model.specs.declared.verdict.RuleSource.{RuleSource}
use Rattle.authority_model.specs.declared.message.Message.{Message}
use Rattle.authority_model.specs.declared.message.Message.TheVariants.{Begin}
use Rattle.authority_model.specs.declared.message.Output.{Output}
use Rattle.authority_model.specs.declared.pending.Agent.{Agent}
use Rattle.authority_model.specs.declared.pending.Pending.{Pending}
use Rattle.authority_model.specs.Lists.{or_else, when, any_of}
use Rattle.authority_model.specs.Steps.{◌>>=◌}
use Rattle.authority_model.specs.Words.{Bytes}
use Rattle.authority_model.specs.Values.{same_identity}
use Rattle.authority_model.specs.Keys.{same_key}
use Rattle.authority_model.specs.Facts.{Facts}
use Rattle.authority_model.specs.Items.{Item, sent, implicit_for}
use Rattle.authority_model.specs.Peers.{live, is_root, uid_of, departs, is_by, call_in}
use Rattle.authority_model.specs.Subjects.{facts}
use Rattle.authority_model.specs.Agents.{agent_for, unregisters, unlists}
use Rattle.authority_model.specs.Cookies.{cookie_text}

-- What a Begin tells: its cookie and who may answer.
pub record Begun : Type 0 where
  pub cookie : Cookie
  pub identities : List Identity

-- what a message tells, if it is a Begin
abbrev pub begun : Message → Option Begun
begun (Begin path action text icon details cookie identities) = Some (record { cookie = cookie; identities = identities })
begun _ = None

-- the same of the first Begin among outputs
abbrev pub begun_in : List Output → Option Begun
begun_in [] = None
begun_in (o ∷ outputs) = or_else (begun o.message) (begun_in outputs)

-- What a check asks: its serial, whether it is quiet, subject, action and cancellation id.
pub record Question : Type 0 where
  pub serial : ℕ
  pub quiet : Bool
  pub subject : Subject
  pub action : Bytes
  pub cancel : Bytes

-- what the check in an event asks
abbrev pub question_in : Event → Option Question
question_in (Called serial quiet (Call.Check subject action details flags cancel)) = Some (record { serial = serial; quiet = quiet; subject = subject; action = action; cancel = cancel })
question_in _ = None

-- the challenge that an item opens, by its question and its Begin, its subject's facts, the action's value, the agent and the asker's uid
abbrev pub challenge_of : List Item → Item → Question → Begun → Facts → Implicit × RuleSource → Agent → ℕ → Pending
challenge_of past i q b f v a uid = let (value, source) = v in record {
  entry = length past;
  asker = i.entry.caller;
  asker_uid = uid;
  serial = q.serial;
  quiet = q.quiet;
  cancel = q.cancel;
  key = f.key;
  action = q.action;
  value = value;
  source = source;
  cookie = b.cookie;
  identities = b.identities;
  agent = a.caller;
  agent_serial = sent past a.caller + 1;
  agent_key = a.key;
  agent_path = a.path;
  answered = None;
}

-- The challenge that an item opens: a check whose outputs have a Begin.
abbrev pub opened : List Item → Item → Option Pending
opened past i = do
  q ← question_in i.entry.event
  b ← begun_in i.entry.outputs
  f ← facts past q.subject
  v ← implicit_for past f q.action
  agent ← agent_for past f
  option_map (challenge_of past i q b f v agent) (uid_of past i.entry.caller)

-- the serial that a return or an agent's error replies to
abbrev pub serial_ended : Event → Option ℕ
serial_ended (Returned serial) = Some serial
serial_ended (AgentError serial name) = Some serial
serial_ended _ = None

-- whether a call cancels this id, which is not empty
abbrev pub cancels : Bytes → Call → Bool
cancels id (Call.Cancel id') = not (is_empty id) && bytes_eq id id'
cancels id _ = false

-- whether an item is the agent's reply to a challenge
abbrev pub returns_to : Pending → Item → Bool
returns_to ch i = is_by ch.agent i && option_map_or (λ s. s == ch.agent_serial) (serial_ended i.entry.event) false

-- Whether an item closes a challenge: the agent replies, the asker cancels it, the asker or the agent departs, the agent is unregistered, or a load does not list the key of the subject or of the agent.
abbrev pub closes : List Item → Pending → Item → Bool
closes past ch i = returns_to ch i || (is_by ch.asker i && option_map_or (cancels ch.cancel) (call_in i.entry.event) false) || departs ch.asker i || departs ch.agent i || unregisters past ch.agent ch.agent_key ch.agent_path i || unlists ch.key i || unlists ch.agent_key i

-- the identity with which a call answers a challenge that has this cookie text and is offered to these
abbrev pub responds : Bytes → List Identity → Call → Option Identity
responds cookie offered (Call.Respond cookie' identity) = when (bytes_eq cookie cookie' && any_of (same_identity identity) offered) identity
responds cookie offered _ = None

-- the answer that an item gives to a challenge: only a live connection of uid 0 gives one
abbrev pub answer_to : List Item → Pending → Item → Option Identity
answer_to past ch i = if live past i.entry.caller && is_root past i.entry.caller then option_and_then (responds (cookie_text ch.cookie) ch.identities) (call_in i.entry.event) else None

-- a challenge after an item, which may answer it: the first answer stands
abbrev pub with_answer : List Item → Item → Pending → Pending
with_answer past i ch = record ch { answered = or_else ch.answered (answer_to past ch i) }

-- The pending challenges in the order of opening: those from before that the last item does not close, with its answer, and the one that it opens.
abbrev pub pending : List Item → List Pending
pending [] = []
pending (i ∷ past) = map (with_answer past i) (filter (λ ch. not (closes past ch i)) (pending past)) ++ option_to_list (opened past i)

-- how many challenges were opened
abbrev pub opened_count : List Item → ℕ
opened_count [] = 0
opened_count (i ∷ past) = opened_count past + length (option_to_list (opened past i))

-- the pending challenge whose Begin was sent to this connection with this serial
abbrev pub at_agent : List Item → ℕ → ℕ → Option Pending
at_agent past c s = find (λ ch. (ch.agent == c) && (ch.agent_serial == s)) (pending past)

-- the pending check of a connection with this cancellation id, which is not empty
abbrev pub with_id : List Item → ℕ → Bytes → Option Pending
with_id past c id = if is_empty id then None else find (λ ch. (ch.asker == c) && bytes_eq ch.cancel id) (pending past)

-- how many pending checks have askers of a connection's user
abbrev pub pending_beside : List Item → ℕ → ℕ
pending_beside past c = option_map_or (λ uid. length (filter (λ ch. ch.asker_uid == uid) (pending past))) (uid_of past c) 0

-- the pending checks at the registration of a key by a connection
abbrev pub pending_at : List Item → ℕ → Key → List Pending
pending_at past c key = filter (λ ch. (ch.agent == c) && same_key ch.agent_key key) (pending past)
