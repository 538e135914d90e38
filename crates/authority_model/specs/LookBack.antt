-- What is in force, pending, answered and live, said by looking back over the history.
use Rattle.std.specs.Prelude.{ℕ, ◌+◌, ◌<◌, ◌≡◌, ◌⊎◌, ⊤, Bool, true, false, List, [], ◌∷◌, ◌++◌, Some, None, length}
use Rattle.pk_types.specs.declared.values.Pair.{Pair}
use Rattle.pk_types.specs.declared.values.Subject.{Subject}
use Rattle.pk_types.specs.declared.values.Implicit.{Implicit}
use Rattle.pk_types.specs.declared.values.Identity.{Identity}
use Rattle.authority_model.specs.declared.pending.Agent.{Agent}
use Rattle.authority_model.specs.declared.event.Call.{Call}
use Rattle.authority_model.specs.declared.event.Event.TheVariants.{Call as Called, Returned}
use Rattle.authority_model.specs.declared.journal.Item.{Item}
use Rattle.authority_model.specs.declared.key.Key.{Key}
use Rattle.authority_model.specs.declared.message.Output.{Output}
use Rattle.authority_model.specs.declared.pending.Pending.{Pending}
use Rattle.authority_model.specs.declared.process_id.ProcessId.{ProcessId}
use Rattle.authority_model.specs.declared.verdict.TheConstants.{GRANT_SECONDS}
use Rattle.authority_model.specs.declared.verdict.RuleSource.{RuleSource}
use Rattle.authority_model.specs.declared.world.Process.{Process as ProcessRow}
use Rattle.authority_model.specs.Words.{Bytes}
use Rattle.authority_model.specs.Values.{is_keep}
use Rattle.authority_model.specs.Keys.{uid_of_key}
use Rattle.authority_model.specs.Worlds.{process_row}
use Rattle.authority_model.specs.Facts.{Facts}
use Rattle.authority_model.specs.Items.{sent, implicit_for, world_of}
use Rattle.authority_model.specs.Peers.{live, may_for, uid_of, connects, departs}
use Rattle.authority_model.specs.Subjects.{facts}
use Rattle.authority_model.specs.Agents.{agent_for, ends}
use Rattle.authority_model.specs.Challenges.{begun, closes}
use Rattle.authority_model.specs.Deciding.{Decision, decision_of}
use Rattle.authority_model.specs.Verdicts.{may_answer}
use Rattle.authority_model.specs.Grants.{kept, ends_grant, grant_row}
use Rattle.authority_model.specs.Licensed.{IsResponse, NoneResponds, NthTo}

-- none of the later items, each with the history before it, passes the test
abbrev pub NoneOf : (List Item → Item → Bool) → List Item → List Item → Type 0
NoneOf test [] rest = ⊤
NoneOf test (j ∷ later) rest = (test (later ++ rest) j ≡ false) × NoneOf test later rest

-- no item connects the connection
abbrev pub NeverConnects : List Item → ℕ → Type 0
NeverConnects [] c = ⊤
NeverConnects (i ∷ past) c = (connects c i ≡ None) × NeverConnects past c

-- the first Connect of the connection has this uid
pub record IsUid (past : List Item) (c uid : ℕ) : Type 0 where
  pub later : List Item
  pub i : Item
  pub before : List Item
  pub parts : past ≡ later ++ i ∷ before
  pub connects : connects c i ≡ Some uid
  pub first : NeverConnects before c

-- the connection connected, and did not depart after its first Connect
pub record IsLive (past : List Item) (c : ℕ) : Type 0 where
  pub later : List Item
  pub i : Item
  pub before : List Item
  pub parts : past ≡ later ++ i ∷ before
  pub uid : ℕ
  pub connects : connects c i ≡ Some uid
  pub first : NeverConnects before c
  pub stays : NoneOf (λ past j. departs c j) later (i ∷ before)

-- an item is an Announce by the live connection of a process that the world lists, whose uid is the connection's or the connection's is 0
pub record Announces (past : List Item) (i : Item) (c : ℕ) (p : ProcessId) : Type 0 where
  pub caller : i.entry.caller ≡ c
  pub serial : ℕ
  pub quiet : Bool
  pub event : i.entry.event ≡ Called serial quiet (Call.Announce p.pid p.start)
  pub lives : live past c ≡ true
  pub row : ProcessRow
  pub listed : process_row (world_of past) p.pid p.start ≡ Some row
  pub may : may_for past c row.uid ≡ true

-- no later item announces
abbrev pub NoneAnnounces : List Item → List Item → ℕ → Type 0
NoneAnnounces [] rest c = ⊤
NoneAnnounces (j ∷ later) rest c = ((p : ProcessId) → Announces (later ++ rest) j c p → ⊥) × NoneAnnounces later rest c

-- the connection is live, and the last item that announces names this process
pub record IsAnnounced (past : List Item) (c : ℕ) (p : ProcessId) : Type 0 where
  pub lives : live past c ≡ true
  pub later : List Item
  pub i : Item
  pub before : List Item
  pub parts : past ≡ later ++ i ∷ before
  pub announces : Announces before i c p
  pub last : NoneAnnounces later (i ∷ before) c

-- An item is a Register by a live connection, whose subject has facts with the key, and the key's uid is the connection's or the connection's is 0.
pub record Registers (past : List Item) (r : Item) (a : Agent) : Type 0 where
  pub serial : ℕ
  pub quiet : Bool
  pub subject : Subject
  pub event : r.entry.event ≡ Called serial quiet (Call.Register subject a.locale a.path)
  pub caller : r.entry.caller ≡ a.caller
  pub lives : live past a.caller ≡ true
  pub f : Facts
  pub facts_are : facts past subject ≡ Some f
  pub key_is : f.key ≡ a.key
  pub may : may_for past a.caller (uid_of_key a.key) ≡ true

-- Some item of the history made the registration, no registration of its key was in force there, and no later item ends it. The later items of the whole history stand in front.
abbrev pub InForceSince : List Item → List Item → Agent → Type 0
InForceSince later [] a = ⊥
InForceSince later (r ∷ before) a = (Registers before r a × ((b : Agent) → InForceSince [] before b → b.key ≡ a.key → ⊥) × NoneOf (λ past j. ends past a j) later (r ∷ before)) ⊎ InForceSince (later ++ r ∷ []) before a

-- the registration is in force: some item made it, and no later one ended it
abbrev pub InForce : List Item → Agent → Type 0
InForce past a = InForceSince [] past a

-- An item opens the challenge: it is a check whose outputs have a Begin, and the challenge has all that it tells.
pub record Opens (past : List Item) (i : Item) (o : Pending) : Type 0 where
  pub entry_is : o.entry ≡ length past
  pub unanswered : o.answered ≡ None
  pub subject : Subject
  pub details : List Pair
  pub flags : ℕ
  pub event : i.entry.event ≡ Called o.serial o.quiet (Call.Check subject o.action details flags o.cancel)
  pub asker : i.entry.caller ≡ o.asker
  pub asker_uid : uid_of past o.asker ≡ Some o.asker_uid
  pub f : Facts
  pub facts_are : facts past subject ≡ Some f
  pub key_is : f.key ≡ o.key
  pub value_is : implicit_for past f o.action ≡ Some (o.value, o.source)
  pub agent : Agent
  pub agent_is : agent_for past f ≡ Some agent
  pub agent_caller : agent.caller ≡ o.agent
  pub agent_key : agent.key ≡ o.agent_key
  pub agent_path : agent.path ≡ o.agent_path
  pub begin : Output
  pub begins : begun begin.message ≡ Some (record { cookie = o.cookie; identities = o.identities })
  pub placed : NthTo o.agent (sent past o.agent) o.agent_serial begin i.entry.outputs

-- a challenge as it was opened
abbrev pub unanswered : Pending → Pending
unanswered ch = record ch { answered = None }

-- some item opened the challenge, and no later one closes it
pub record IsPending (past : List Item) (o : Pending) : Type 0 where
  pub later : List Item
  pub i : Item
  pub before : List Item
  pub parts : past ≡ later ++ i ∷ before
  pub opens : Opens before i o
  pub stands : NoneOf (λ past j. closes past o j) later (i ∷ before)

-- The first Respond after the item that opened the challenge, by a live connection of uid 0, with its cookie text and one of its identities, has this identity, and the challenge was pending there.
pub record IsAnswered (past : List Item) (o : Pending) (identity : Identity) : Type 0 where
  pub after : List Item
  pub j : Item
  pub between : List Item
  pub i : Item
  pub before : List Item
  pub parts : past ≡ after ++ (j ∷ (between ++ (i ∷ before)))
  pub opens : Opens before i o
  pub none : NoneResponds between (i ∷ before) o.cookie o.identities
  pub answers : IsResponse (between ++ i ∷ before) j o.cookie o.identities identity
  pub stands : NoneOf (λ past j. closes past o j) between (i ∷ before)

-- An item makes a grant: it is a return that closes a challenge, which is pending and was answered; what is decided now is a challenge of a keep value, and the identity may answer it.
pub record IsMade (past : List Item) (i : Item) (o : Pending) (identity : Identity) : Type 0 where
  pub event : i.entry.event ≡ Returned o.agent_serial
  pub agent : i.entry.caller ≡ o.agent
  pub pending : IsPending past o
  pub answered : IsAnswered past o identity
  pub value : Implicit
  pub source : RuleSource
  pub decides : decision_of past (kept past) i.entry.moment o.key o.action ≡ Some (Decision.Challenge value source)
  pub keeps : is_keep value ≡ true
  pub may : may_answer past value (uid_of_key o.key) identity ≡ true

-- an item makes some grant
abbrev pub MakesOne : List Item → Item → Type 0
MakesOne past i = (o : Pending) × (identity : Identity) × IsMade past i o identity

-- how many items made a grant
abbrev pub MadeCount : List Item → ℕ → Type 0
MadeCount [] n = n ≡ 0
MadeCount (i ∷ past) n = (MakesOne past i × ((m : ℕ) × (n ≡ m + 1) × MadeCount past m)) ⊎ ((MakesOne past i → ⊥) × MadeCount past n)

-- Grant g for a key and an action is live at a moment: an item made it, g counts those made before, the moment is in its time, and no later item ends it.
pub record IsLiveGrant (past : List Item) (g : ℕ) (key : Key) (action : Bytes) (t : ℕ) : Type 0 where
  pub later : List Item
  pub i : Item
  pub before : List Item
  pub parts : past ≡ later ++ i ∷ before
  pub o : Pending
  pub identity : Identity
  pub made : IsMade before i o identity
  pub number : MadeCount before g
  pub key_is : o.key ≡ key
  pub action_is : o.action ≡ action
  pub in_time : t < i.entry.moment + GRANT_SECONDS
  pub stands : NoneOf (λ past j. ends_grant past (grant_row o i.entry.moment g) j) later (i ∷ before)
