-- What licenses a yes.
use Rattle.std.specs.Prelude.{ℕ, ◌+◌, ◌≡◌, ◌⊎◌, ⊤, Bool, true, List, [], ◌∷◌, ◌++◌, Some, None, length}
use Rattle.pk_types.specs.declared.values.Subject.{Subject}
use Rattle.pk_types.specs.declared.values.Implicit.{Implicit}
use Rattle.pk_types.specs.declared.values.Identity.{Identity}
use Rattle.pk_types.specs.declared.values.Pair.{Pair}
use Rattle.authority_model.specs.declared.event.Event.TheVariants.{Call as Called, Returned}
use Rattle.authority_model.specs.declared.event.Call.{Call}
use Rattle.authority_model.specs.declared.verdict.Cookie.{Cookie}
use Rattle.authority_model.specs.declared.message.Answer.{Answer}
use Rattle.authority_model.specs.declared.message.Message.{Message}
use Rattle.authority_model.specs.declared.message.Output.{Output}
use Rattle.authority_model.specs.declared.verdict.Reason.{Reason}
use Rattle.authority_model.specs.declared.verdict.RuleSource.{RuleSource}
use Rattle.authority_model.specs.declared.verdict.Verdict.{Verdict}
use Rattle.authority_model.specs.declared.policy.Action.{Action}
use Rattle.authority_model.specs.declared.policy.RuleEntry.{RuleEntry}
use Rattle.authority_model.specs.declared.pending.Agent.{Agent}
use Rattle.authority_model.specs.declared.verdict.GrantRow.{GrantRow}
use Rattle.authority_model.specs.declared.key.Key.{Key}
use Rattle.authority_model.specs.declared.pending.Pending.{Pending}
use Rattle.authority_model.specs.Lists.{Has, Each, any_of}
use Rattle.authority_model.specs.Words.{Bytes}
use Rattle.authority_model.specs.Values.{same_identity, is_auth}
use Rattle.authority_model.specs.Facts.{Facts, facts_of_key}
use Rattle.authority_model.specs.Admins.{allowed}
use Rattle.authority_model.specs.Rules.{action_of, default_of, value_of, deciding, annotates}
use Rattle.authority_model.specs.Items.{Item, world_of, policy_of, sent, count_to, implicit_for}
use Rattle.authority_model.specs.Peers.{live, is_root}
use Rattle.authority_model.specs.Subjects.{facts}
use Rattle.authority_model.specs.Agents.{agent_for}
use Rattle.authority_model.specs.Cookies.{cookie_text}
use Rattle.authority_model.specs.Challenges.{pending, begun}
use Rattle.authority_model.specs.Deciding.{imply_key, serves}
use Rattle.authority_model.specs.Grants.{kept}

-- the action's default for the category of these facts is yes, and no rule matches
pub record ByDefault (past : List Item) (f : Facts) (a : Bytes) : Type 0 where
  pub action : Action
  pub found : action_of (policy_of past) a ≡ Some action
  pub none : deciding (policy_of past) (world_of past) f.uid f.category a ≡ None
  pub yes : default_of action f.category ≡ Implicit.Yes

-- the greatest matching pair has the rule at this place, whose value is yes
pub record ByEntry (past : List Item) (f : Facts) (a : Bytes) (place : ℕ) : Type 0 where
  pub entry : RuleEntry
  pub found : deciding (policy_of past) (world_of past) f.uid f.category a ≡ Some (place, entry)
  pub yes : value_of entry f.category ≡ Some Implicit.Yes

-- this grant lives for the key and the action
pub record ByGrant (past : List Item) (f : Facts) (a : Bytes) (t number : ℕ) : Type 0 where
  pub grant : GrantRow
  pub kept : Has (kept past) grant
  pub serves : serves f.key a t grant ≡ true
  pub number_is : grant.id ≡ number

-- why an action is allowed by itself
abbrev pub OwnPermits : List Item → Facts → Bytes → ℕ → Type 0
OwnPermits past f a t = ByDefault past f a ⊎ (((place : ℕ) × ByEntry past f a place) ⊎ ((number : ℕ) × ByGrant past f a t number))

-- an action that lists another in its imply annotation and is allowed by itself
pub record ByImply (past : List Item) (f : Facts) (a : Bytes) (t : ℕ) (b : Bytes) : Type 0 where
  pub action : Action
  pub found : action_of (policy_of past) b ≡ Some action
  pub implies : annotates action imply_key a ≡ true
  pub own : OwnPermits past f b t

-- a reason permits an action for a subject of these facts
abbrev pub Permits : List Item → Facts → Bytes → ℕ → Reason → Type 0
Permits past f a t Reason.Root = f.uid ≡ 0
Permits past f a t (Reason.Default category) = (f.category ≡ category) × ByDefault past f a
Permits past f a t (Reason.Entry place) = ByEntry past f a place
Permits past f a t (Reason.Grant number) = ByGrant past f a t number
Permits past f a t (Reason.Imply b) = ByImply past f a t b
Permits past f a t Reason.Challenge = ⊥
Permits past f a t Reason.Dismissed = ⊥
Permits past f a t Reason.AgentGone = ⊥
Permits past f a t Reason.SubjectGone = ⊥
Permits past f a t Reason.ActionGone = ⊥
Permits past f a t Reason.IdentityGone = ⊥

-- an item is a check by this connection with this serial
pub record Checks (i : Item) (c serial : ℕ) (subject : Subject) (action : Bytes) : Type 0 where
  pub caller : i.entry.caller ≡ c
  pub quiet : Bool
  pub details : List Pair
  pub flags : ℕ
  pub cancel : Bytes
  pub event : i.entry.event ≡ Called serial quiet (Call.Check subject action details flags cancel)

-- a reply of yes stands in the check that it answers
pub record ByCheck (past : List Item) (i : Item) (c serial : ℕ) (reason : Reason) : Type 0 where
  pub subject : Subject
  pub action : Bytes
  pub f : Facts
  pub check : Checks i c serial subject action
  pub facts_are : facts past subject ≡ Some f
  pub permits : Permits past f action i.entry.moment reason

-- the k-th of the outputs to a connection, counted on from n, is this one
abbrev pub NthTo : ℕ → ℕ → ℕ → Output → List Output → Type 0
NthTo c n k o [] = ⊥
NthTo c n k o (p ∷ outputs) = ((p ≡ o) × (p.to ≡ c) × (n + 1 ≡ k)) ⊎ NthTo c (n + count_to c (p ∷ [])) k o outputs

-- An item, with this history before it, asks agent n: it is a check by connection c with this serial, and its Begin is the s-th output to n.
-- The registration in force is n's. The key is that of its subject, and these identities may answer.
pub record Asks (before : List Item) (q : Item) (c serial n s : ℕ) (action : Bytes) (key : Key) (cookie : Cookie) (offered : List Identity) : Type 0 where
  pub subject : Subject
  pub check : Checks q c serial subject action
  pub f : Facts
  pub facts_are : facts before subject ≡ Some f
  pub key_is : f.key ≡ key
  pub value : Implicit
  pub source : RuleSource
  pub value_is : implicit_for before f action ≡ Some (value, source)
  pub agent : Agent
  pub agent_is : agent_for before f ≡ Some agent
  pub agent_caller : agent.caller ≡ n
  pub begin : Output
  pub identities : List Identity
  pub begins : begun begin.message ≡ Some (record { cookie = cookie; identities = identities })
  pub placed : NthTo n (sent before n) s begin q.entry.outputs
  pub offered_are : offered ≡ allowed (world_of before) (policy_of before).admins value f.uid

-- an item is a Respond by a live connection of uid 0 with this cookie and an identity among these
pub record IsResponse (past : List Item) (j : Item) (cookie : Cookie) (offered : List Identity) (identity : Identity) : Type 0 where
  pub serial : ℕ
  pub quiet : Bool
  pub event : j.entry.event ≡ Called serial quiet (Call.Respond (cookie_text cookie) identity)
  pub lives : live past j.entry.caller ≡ true
  pub root : is_root past j.entry.caller ≡ true
  pub may_answer : any_of (same_identity identity) offered ≡ true

-- none of the later items is such a Respond
abbrev pub NoneResponds : List Item → List Item → Cookie → List Identity → Type 0
NoneResponds [] rest cookie offered = ⊤
NoneResponds (j ∷ later) rest cookie offered = ((identity : Identity) → IsResponse (later ++ rest) j cookie offered identity → ⊥) × NoneResponds later rest cookie offered

-- the first such Respond among the later items has this identity
abbrev pub FirstResponds : List Item → List Item → Cookie → List Identity → Identity → Type 0
FirstResponds [] rest cookie offered identity = ⊥
FirstResponds (j ∷ later) rest cookie offered identity = FirstResponds later rest cookie offered identity ⊎ (NoneResponds later rest cookie offered × IsResponse (later ++ rest) j cookie offered identity)

-- a challenge of the value that the action has now, which this identity may answer
pub record MayAnswer (past : List Item) (f : Facts) (a : Bytes) (identity : Identity) : Type 0 where
  pub value : Implicit
  pub source : RuleSource
  pub value_is : implicit_for past f a ≡ Some (value, source)
  pub auth : is_auth value ≡ true
  pub may_answer : any_of (same_identity identity) (allowed (world_of past) (policy_of past).admins value f.uid) ≡ true

-- a reply of yes stands in the return of a challenge that was answered, and is permitted now, or may be answered so now
pub record ByReturn (past : List Item) (i : Item) (c serial : ℕ) (reason : Reason) : Type 0 where
  pub s : ℕ
  pub returns : i.entry.event ≡ Returned s
  pub later : List Item
  pub q : Item
  pub before : List Item
  pub parts : past ≡ later ++ q ∷ before
  pub action : Bytes
  pub key : Key
  pub cookie : Cookie
  pub offered : List Identity
  pub asks : Asks before q c serial i.entry.caller s action key cookie offered
  pub challenge : Pending
  pub pending : Has (pending past) challenge
  pub place : challenge.entry ≡ length before
  pub identity : Identity
  pub answered : FirstResponds later (q ∷ before) cookie offered identity
  pub f : Facts
  pub facts_are : facts_of_key (world_of past) key ≡ Some f
  pub permits : Permits past f action i.entry.moment reason ⊎ ((reason ≡ Reason.Challenge) × MayAnswer past f action identity)

-- a yes verdict is licensed where it stands
abbrev pub Licensed : List Item → Item → ℕ → ℕ → Verdict → Type 0
Licensed past i c serial v = ByCheck past i c serial v.reason ⊎ ByReturn past i c serial v.reason

-- each yes among outputs is licensed
abbrev pub IsYesLicensed : List Item → Item → ℕ → Message → Type 0
IsYesLicensed past i c (Message.Reply serial (Answer.Verdict v)) = v.yes ≡ true → Licensed past i c serial v
IsYesLicensed past i c message = ⊤

-- each yes in a history is licensed
abbrev pub AllLicensed : List Item → Type 0
AllLicensed [] = ⊤
AllLicensed (i ∷ past) = Each (λ o. IsYesLicensed past i o.to o.message) i.entry.outputs × AllLicensed past
