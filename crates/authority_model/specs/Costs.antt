-- The counted bytes of a journal, and when it is full.
use Rattle.std.specs.Prelude.{ℕ, ◌+◌, ◌*◌, ◌^◌, ◌≤◌, ◌⊎◌, List, length, min, sum_by}
use Rattle.std.specs.Option.{option_map_or}
use Rattle.pk_types.specs.declared.values.Identity.{Identity}
use Rattle.pk_types.specs.declared.values.Pair.{Pair}
use Rattle.pk_types.specs.declared.values.Subject.{Subject}
use Rattle.authority_model.specs.declared.event.Call.{Call}
use Rattle.authority_model.specs.declared.event.Event.{Event}
use Rattle.authority_model.specs.declared.event.Event.TheVariants.{Call as Called, AgentError}
use Rattle.authority_model.specs.declared.journal.Entry.{Entry}
use Rattle.authority_model.specs.declared.journal.History.{History}
use Rattle.authority_model.specs.declared.journal.Limits.{Limits}
use Rattle.authority_model.specs.declared.key.Key.{Key}
use Rattle.authority_model.specs.declared.load.FileFault.{FileFault}
use Rattle.authority_model.specs.declared.load.Loaded.{Loaded}
use Rattle.authority_model.specs.declared.message.Answer.{Answer}
use Rattle.authority_model.specs.declared.message.Message.{Message}
use Rattle.authority_model.specs.declared.message.Output.{Output}
use Rattle.authority_model.specs.declared.policy.Action.{Action}
use Rattle.authority_model.specs.declared.policy.Localized.{Localized}
use Rattle.authority_model.specs.declared.policy.Policy.{Policy}
use Rattle.authority_model.specs.declared.policy.RuleEntry.{RuleEntry}
use Rattle.authority_model.specs.declared.verdict.GrantRow.{GrantRow}
use Rattle.authority_model.specs.declared.verdict.Reason.{Reason}
use Rattle.authority_model.specs.declared.verdict.Verdict.{Verdict}
use Rattle.authority_model.specs.declared.world.World.{World}
use Rattle.authority_model.specs.declared.world.User.{User as UserRow}
use Rattle.authority_model.specs.declared.world.Group.{Group as GroupRow}
use Rattle.authority_model.specs.declared.world.Session.{Session as SessionRow}
use Rattle.authority_model.specs.declared.world.Process.{Process as ProcessRow}
use Rattle.authority_model.specs.Words.{Bytes}

-- the bytes of some texts
abbrev pub cost_of_texts : List Bytes → ℕ
cost_of_texts texts = sum_by length texts

-- a pair: 64 and its texts
abbrev pub cost_of_pair : Pair → ℕ
cost_of_pair p = 64 + length p.key + length p.value

-- pairs
abbrev pub cost_of_pairs : List Pair → ℕ
cost_of_pairs pairs = sum_by cost_of_pair pairs

-- identities: 64 each
abbrev pub cost_of_identities : List Identity → ℕ
cost_of_identities identities = 64 * length identities

-- the text in a subject
abbrev pub cost_of_subject : Subject → ℕ
cost_of_subject (Subject.Process pid start) = 0
cost_of_subject (Subject.Session id) = length id
cost_of_subject (Subject.BusName name) = length name

-- the text in a key
abbrev pub cost_of_key : Key → ℕ
cost_of_key (Key.Process pid start uid) = 0
cost_of_key (Key.Session id uid) = length id

-- a grant row: 64 and its texts
abbrev pub cost_of_row : GrantRow → ℕ
cost_of_row g = 64 + length g.action + cost_of_key g.key

-- the text in a reason
abbrev pub cost_of_reason : Reason → ℕ
cost_of_reason (Reason.Imply id) = length id
cost_of_reason _ = 0

-- the text and the pairs of a verdict
abbrev pub cost_of_verdict : Verdict → ℕ
cost_of_verdict v = cost_of_reason v.reason + cost_of_pairs v.pairs

-- what an answer holds; a number, a cookie and a cause are not texts
abbrev pub cost_of_answer : Answer → ℕ
cost_of_answer (Answer.Verdict v) = cost_of_verdict v
cost_of_answer Answer.Done = 0
cost_of_answer (Answer.Name name) = length name
cost_of_answer (Answer.Actions load locale) = length locale
cost_of_answer (Answer.Grants rows) = sum_by cost_of_row rows
cost_of_answer (Answer.Refused cause) = 0

-- what a message holds
abbrev pub cost_of_message : Message → ℕ
cost_of_message (Message.Reply serial answer) = cost_of_answer answer
cost_of_message (Message.Begin path action text icon details cookie identities) = length path + length action + length text + length icon + cost_of_pairs details + cost_of_identities identities
cost_of_message (Message.CancelBegin path cookie) = length path
cost_of_message Message.Changed = 0
cost_of_message Message.LoadWanted = 0
cost_of_message Message.StopWanted = 0

-- an output: 64 and what its message holds
abbrev pub cost_of_output : Output → ℕ
cost_of_output o = 64 + cost_of_message o.message

-- what a call holds
abbrev pub cost_of_call : Call → ℕ
cost_of_call (Call.Announce pid start) = 0
cost_of_call (Call.Check subject action details flags cancel) = cost_of_subject subject + length action + cost_of_pairs details + length cancel
cost_of_call (Call.Cancel cancel) = length cancel
cost_of_call (Call.Register subject locale path) = cost_of_subject subject + length locale + length path
cost_of_call (Call.Unregister subject path) = cost_of_subject subject + length path
cost_of_call (Call.Respond cookie identity) = length cookie + 64
cost_of_call (Call.EnumerateActions locale) = length locale
cost_of_call (Call.EnumerateGrants subject) = cost_of_subject subject
cost_of_call (Call.RevokeAll subject) = cost_of_subject subject
cost_of_call (Call.RevokeOne id) = length id
cost_of_call Call.Reload = 0
cost_of_call (Call.Wrong cause) = 0

-- what an event holds
abbrev pub cost_of_event : Event → ℕ
cost_of_event (Called serial quiet call) = cost_of_call call
cost_of_event (AgentError serial name) = length name
cost_of_event _ = 0

-- a cost above 2^62 counts as 2^62
abbrev pub capped : ℕ → ℕ
capped cost = min cost (2 ^ 62)

-- an entry: 64, and what its event and its outputs hold
abbrev pub cost_of_entry : Entry → ℕ
cost_of_entry e = capped (64 + cost_of_event e.event + sum_by cost_of_output e.outputs)

-- a localized text: 64 and its texts
abbrev pub cost_of_localized : Localized → ℕ
cost_of_localized l = 64 + length l.lang + length l.text

-- an action: 64, and all that it holds
abbrev pub cost_of_action : Action → ℕ
cost_of_action a = 64 + length a.id + sum_by cost_of_localized a.descriptions + sum_by cost_of_localized a.messages + length a.vendor + length a.vendor_url + length a.icon + cost_of_pairs a.annotations

-- a rule: 64, its globs and its pairs
abbrev pub cost_of_rule : RuleEntry → ℕ
cost_of_rule e = 64 + cost_of_texts e.identities + cost_of_texts e.actions + cost_of_pairs e.pairs

-- a policy
abbrev pub cost_of_policy : Policy → ℕ
cost_of_policy p = sum_by cost_of_action p.actions + sum_by cost_of_rule p.entries + cost_of_texts p.admins

-- a user: 64, its texts, and 64 for each membership
abbrev pub cost_of_user : UserRow → ℕ
cost_of_user u = 64 + length u.name + length u.label + 64 * length u.gids

-- a group: 64 and its texts
abbrev pub cost_of_group : GroupRow → ℕ
cost_of_group g = 64 + length g.name + length g.label

-- a session: 64 and its id
abbrev pub cost_of_session : SessionRow → ℕ
cost_of_session s = 64 + length s.id

-- a process: 64 and the id of its session
abbrev pub cost_of_process : ProcessRow → ℕ
cost_of_process p = 64 + option_map_or length p.session 0

-- a world
abbrev pub cost_of_world : World → ℕ
cost_of_world w = sum_by cost_of_user w.users + sum_by cost_of_group w.groups + sum_by cost_of_session w.sessions + sum_by cost_of_process w.processes

-- the texts of a skipped file
abbrev pub cost_of_fault : FileFault → ℕ
cost_of_fault f = length f.file + length f.kind

-- a load, beside its entry
abbrev pub cost_of_load : Loaded → ℕ
cost_of_load l = capped (cost_of_policy l.policy + cost_of_world l.world + sum_by cost_of_fault l.faults)

-- the counted bytes of a history: those of its entries and of its loads
abbrev pub bytes_of : History → ℕ
bytes_of h = sum_by cost_of_entry h.entries + sum_by cost_of_load h.loads

-- a journal is full: it has as many entries, or as many counted bytes, as the limits say
abbrev pub IsFull : Limits → History → Type 0
IsFull limits h = (limits.entries ≤ length h.entries) ⊎ (limits.bytes ≤ bytes_of h)
