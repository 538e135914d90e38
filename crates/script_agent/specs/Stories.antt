-- How far an agent came, and how it ends.
use Rattle.std.specs.Prelude.{◌≡◌, ℕ, ◌<◌, ◌≤◌, ◌⊎◌, Bool, true, false, IsTrue, List, [], ◌∷◌, ◌++◌, length, map, ◌+◌, Option, Some, None}
use Rattle.std.specs.List.{filter_map}
use Rattle.dbus_values.specs.Next.{Seen, Partial, Bad, next_of}
use Rattle.authority_model.specs.Words.{Bytes}
use Rattle.link_handshake.specs.Clients.{awaited, first_bytes}
use Rattle.link_handshake.specs.Shakes.{Open}
use Rattle.client_messages.specs.declared.agent.AgentBegin.{AgentBegin}
use Rattle.client_messages.specs.Agents.{begin_of}
use Rattle.pk_outside.specs.Allowing.{IsFront}
use Rattle.client_link.specs.Shakings.{FailsIn}
use Rattle.agent_rules.specs.declared.line.Handling.{Handling}
use Rattle.agent_rules.specs.declared.line.Handling.TheVariants as handling
use Rattle.agent_rules.specs.declared.line.Rule.{Rule}
use Rattle.agent_rules.specs.Rules.{handling_for}
use Rattle.script_agent.specs.declared.status.AgentStatus.{AgentStatus}
use Rattle.script_agent.specs.declared.status.AgentStatus.TheVariants as status
use Rattle.script_agent.specs.declared.task.Task.{Task}
use Rattle.script_agent.specs.Challenges.{Challenge, Ask, ask_of, asks_of, helper_bytes, opening_bytes, desk_bytes, lines_of}
use Rattle.script_agent.specs.Lines.{LineStory, IsBegun}
use Rattle.script_agent.specs.Waits.{first_of, refusal_of}

-- What an agent did: its connection to the authority and that to the helper, where they were dialled,
-- the challenges that it met, in order, and what it printed.
pub record Story : Type 0 where
  pub desk : LineStory
  pub helper : Option LineStory
  pub met : List Challenge
  pub printed : Bytes

-- # The helper

-- The replies to the calls of the helper's link, the first of which has this serial, stand in these
-- messages one after another, and no message is behind them.
abbrev pub AreReplies : ℕ → List Ask → List Seen → Type 0
AreReplies serial [] messages = messages ≡ []
AreReplies serial (a ∷ asks) messages =
    (later : List Seen) × (first_of (refusal_of serial) messages ≡ Some (a.refused, later)) × AreReplies (serial + 1) asks later

-- The helper was asked all of this, and replied to it.
pub record HasReplied (path : Bytes) (asks : List Ask) (line : LineStory) : Type 0 where
  pub path_is : line.path ≡ path
  pub begun : IsBegun line
  pub replies : AreReplies 1 asks line.messages
  pub written : line.written ≡ helper_bytes asks

-- The helper's link stands behind these calls; it was not dialled where there is none.
abbrev pub IsHelped : Bytes → List Ask → Option LineStory → Type 0
IsHelped path [] None = Unit {0}
IsHelped path [] (Some line) = ⊥
IsHelped path (a ∷ asks) None = ⊥
IsHelped path (a ∷ asks) (Some line) = HasReplied path (a ∷ asks) line

-- the replies to all calls but the last, which was not replied to
abbrev pub AreRepliesBut : ℕ → List Ask → List Seen → Type 0
AreRepliesBut serial [] messages = first_of (refusal_of serial) messages ≡ None
AreRepliesBut serial (a ∷ asks) messages =
    (later : List Seen) × (first_of (refusal_of serial) messages ≡ Some (a.refused, later)) × AreRepliesBut (serial + 1) asks later

-- The agent shakes hands with the helper.
pub record IsKnockingAtHelper (path : Bytes) (line : LineStory) : Type 0 where
  pub path_is : line.path ≡ path
  pub written : line.written ≡ first_bytes 0

-- The helper was asked one thing more, and has not replied to it.
pub record HasConsulted (path : Bytes) (asks : List Ask) (last : Ask) (line : LineStory) : Type 0 where
  pub path_is : line.path ≡ path
  pub begun : IsBegun line
  pub replies : AreRepliesBut 1 asks line.messages
  pub written : line.written ≡ helper_bytes (asks ++ last ∷ [])

-- what was written to the helper is a prefix of this, where it was dialled
abbrev pub IsHelperFront : Bytes → List Ask → Option LineStory → Type 0
IsHelperFront path asks None = Unit {0}
IsHelperFront path asks (Some line) = (line.path ≡ path) × IsFront line.written (helper_bytes asks)

-- # The authority

-- The agent is registered: the first reply to its first call says that this was done. Of the messages
-- behind it these ask it to begin.
pub record IsRegistered (line : LineStory) (begins : List AgentBegin) : Type 0 where
  pub begun : IsBegun line
  pub later : List Seen
  pub reply : first_of (refusal_of 1) line.messages ≡ Some (false, later)
  pub begins_are : filter_map begin_of later ≡ begins

-- each challenge is handled as the rules say
abbrev pub AreByRules : List Rule → List Challenge → Type 0
AreByRules rules [] = Unit {0}
AreByRules rules (c ∷ met) = (c.handling ≡ handling_for rules c.begin.action) × AreByRules rules met

-- what the agent was asked in challenges
abbrev pub begins_of : List Challenge → List AgentBegin
begins_of met = map (λ c. c.begin) met

-- The agent met these challenges, answered and printed each, and nothing else was asked.
pub record IsReady (t : Task) (s : Story) : Type 0 where
  pub path : s.desk.path ≡ t.path
  pub registered : IsRegistered s.desk (begins_of s.met)
  pub by_rules : AreByRules t.rules s.met
  pub helped : IsHelped t.helper (asks_of s.met) s.helper
  pub written : s.desk.written ≡ desk_bytes t.uid t.session s.met
  pub printed : s.printed ≡ lines_of s.met

-- The agent is not registered: of the two connections there is one, and nothing was met.
pub record IsOpening (t : Task) (s : Story) : Type 0 where
  pub path : s.desk.path ≡ t.path
  pub alone : s.helper ≡ None
  pub none_met : s.met ≡ []
  pub unprinted : s.printed ≡ []

-- It shakes hands with the authority.
pub record IsKnocking (t : Task) (s : Story) : Type 0 where
  pub opening : IsOpening t s
  pub written : s.desk.written ≡ first_bytes t.uid

-- It asked to be registered.
pub record HasAsked (t : Task) (s : Story) : Type 0 where
  pub opening : IsOpening t s
  pub begun : IsBegun s.desk
  pub written : s.desk.written ≡ opening_bytes t.uid t.session

-- One more challenge began, and nothing was answered to it.
pub record IsMeeting (t : Task) (s : Story) (c : Challenge) : Type 0 where
  pub path : s.desk.path ≡ t.path
  pub registered : IsRegistered s.desk (begins_of s.met ++ c.begin ∷ [])
  pub by_rules : AreByRules t.rules (s.met ++ c ∷ [])
  pub few : length s.met < t.count

-- It is one that the helper is asked about, whose reply is not known.
pub record IsConsulting (t : Task) (s : Story) (c : Challenge) (a : Ask) : Type 0 where
  pub meeting : IsMeeting t s c
  pub asks : ask_of c ≡ Some a
  pub written : s.desk.written ≡ desk_bytes t.uid t.session s.met
  pub printed : s.printed ≡ lines_of s.met

-- # Where it is stopped

-- It shakes hands with the helper, which was not asked before.
pub record IsKnockingBehind (t : Task) (s : Story) (line : LineStory) : Type 0 where
  pub challenge : Challenge
  pub ask : Ask
  pub consulting : IsConsulting t s challenge ask
  pub first : asks_of s.met ≡ []
  pub helper : s.helper ≡ Some line
  pub knocking : IsKnockingAtHelper t.helper line

-- It asked the helper about a challenge, and the helper has not replied.
pub record IsAwaitingHelper (t : Task) (s : Story) (line : LineStory) : Type 0 where
  pub challenge : Challenge
  pub ask : Ask
  pub consulting : IsConsulting t s challenge ask
  pub helper : s.helper ≡ Some line
  pub consulted : HasConsulted t.helper (asks_of s.met) ask line

-- the connection on which a handshake is awaited
abbrev pub AwaitsShake : Task → Story → LineStory → Type 0
AwaitsShake t s line = (IsKnocking t s × (line ≡ s.desk)) ⊎ IsKnockingBehind t s line

-- the connection on which a message is awaited: the reply to the registration, the next challenge, or
-- the helper's reply
abbrev pub AwaitsMessage : Task → Story → LineStory → Type 0
AwaitsMessage t s line =
    (HasAsked t s × (first_of (refusal_of 1) s.desk.messages ≡ None) × (line ≡ s.desk))
    ⊎ ((IsReady t s × (length s.met < t.count) × (line ≡ s.desk)) ⊎ IsAwaitingHelper t s line)

-- it ended before what was awaited
abbrev pub IsCut : Task → Story → LineStory → Type 0
IsCut t s line = IsTrue line.ended × ((AwaitsShake t s line × (awaited line.read ≡ Open)) ⊎ (AwaitsMessage t s line × (next_of line.rest ≡ Partial)))

-- Prefixes of what is due were written: of the opening; or, behind the challenges that were met, of
-- what the helper is asked; or of the answer and the line of a challenge, of which the helper's reply
-- is known.
pub record IsInOpening (t : Task) (s : Story) : Type 0 where
  pub opening : IsOpening t s
  pub written : IsFront s.desk.written (opening_bytes t.uid t.session)

pub record IsInConsulting (t : Task) (s : Story) : Type 0 where
  pub challenge : Challenge
  pub ask : Ask
  pub consulting : IsConsulting t s challenge ask
  pub written : IsHelperFront t.helper (asks_of s.met ++ ask ∷ []) s.helper

pub record IsInAnswer (t : Task) (s : Story) : Type 0 where
  pub challenge : Challenge
  pub meeting : IsMeeting t s challenge
  pub helped : IsHelped t.helper (asks_of (s.met ++ challenge ∷ [])) s.helper
  pub written : IsFront s.desk.written (desk_bytes t.uid t.session (s.met ++ challenge ∷ []))
  pub printed : IsFront s.printed (lines_of (s.met ++ challenge ∷ []))

abbrev pub IsUnderWay : Task → Story → Type 0
IsUnderWay t s = IsInOpening t s ⊎ (IsReady t s ⊎ (IsInConsulting t s ⊎ IsInAnswer t s))

-- how an agent stands that is stopped with this status
abbrev pub StopsAt : Task → Story → AgentStatus → Type 0
StopsAt t s status.Done = ⊥
StopsAt t s status.Refused = HasAsked t s × (first_of (refusal_of 1) s.desk.messages ≡ Some (true, []))
StopsAt t s status.Usage = ⊥
StopsAt t s status.TreeFault = ⊥
StopsAt t s status.RuleFile = ⊥
StopsAt t s status.StationFault = IsUnderWay t s
StopsAt t s status.WriteFault = IsUnderWay t s
StopsAt t s (status.BadShake fault) = (line : LineStory) × AwaitsShake t s line × FailsIn line.read fault
StopsAt t s (status.BadBytes kind at) = (line : LineStory) × AwaitsMessage t s line × (next_of line.rest ≡ Bad kind at)
StopsAt t s status.Cut = (line : LineStory) × IsCut t s line
StopsAt t s status.NoMemory = IsUnderWay t s
