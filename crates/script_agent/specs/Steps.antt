-- Where the agent stands between two challenges, and where it is stopped at one.
use Rattle.std.specs.Prelude.{◌≡◌, ℕ, ◌+◌, ◌<◌, ◌≤◌, ◌^◌, ◌⊎◌, IsTrue, true, false, List, [], ◌∷◌, ◌++◌, length, Option, Some, None, Result, Ok, Err, Bool}
use Rattle.pk_outside.specs.Causes.{Rose}
use Rattle.pk_outside.specs.Stations.{StationTold, Dials, has_fault}
use Rattle.pk_outside.specs.Streams.{Got}
use Rattle.pk_outside.specs.declared.stream.Failed.{Failed}
use Rattle.std.specs.Option.{option_to_list}
use Rattle.dbus_values.specs.Next.{Partial, Bad, next_of}
use Rattle.authority_model.specs.Words.{Bytes}
use Rattle.link_handshake.specs.Clients.{awaited}
use Rattle.link_handshake.specs.Shakes.{Open}
use Rattle.script_agent.specs.declared.status.AgentStatus.{AgentStatus}
use Rattle.script_agent.specs.declared.status.AgentStatus.TheVariants as status
use Rattle.script_agent.specs.declared.task.Task.{Task}
use Rattle.client_messages.specs.declared.agent.AgentBegin.{AgentBegin}
use Rattle.client_messages.specs.declared.agent.AgentReply.{AgentReply}
use Rattle.pk_outside.specs.Allowing.{IsFront}
use Rattle.client_link.specs.Shakings.{FailsIn}
use Rattle.agent_rules.specs.Rules.{handling_for}
use Rattle.script_agent.specs.Challenges.{Ask, Challenge, ask_of, asks_of, reply_of, word_of}
use Rattle.script_agent.specs.Lines.{LineNow, LineStory, IsToldBy, IsSound, dialled}
use Rattle.script_agent.specs.Stories.{Story, IsReady, StopsAt, HasReplied, IsHelperFront, IsKnockingAtHelper, HasConsulted}

-- # The helper

-- the story is that of the helper's link, where it was dialled
abbrev pub IsHelperTold : Option LineNow → Option LineStory → Type 0
IsHelperTold None None = Unit {0}
IsHelperTold None (Some line) = ⊥
IsHelperTold (Some now) None = ⊥
IsHelperTold (Some now) (Some line) = IsToldBy now line

-- the helper's link was dialled where it stands now, and was not before, and else the station is as it was
abbrev pub DialsHelper : Bytes → Option StationTold → Option StationTold → Option LineNow → Option LineNow → Type 0
DialsHelper path before after None None = after ≡ before
DialsHelper path before after None (Some now) = Dials path before after now.origin
DialsHelper path before after (Some old) None = ⊥
DialsHelper path before after (Some old) (Some now) = (after ≡ before) × (now.origin ≡ old.origin)

-- It was asked all of this and replied, and so many messages were sent to it.
pub record HelperStands (path : Bytes) (asks : List Ask) (now : LineNow) (line : LineStory) : Type 0 where
  pub told : IsToldBy now line
  pub replied : HasReplied path asks line
  pub rest : now.rest ≡ line.rest
  pub sent : now.sent ≡ length asks
  pub sound : IsSound now

-- the same of a helper that is not dialled before it is asked
abbrev pub HelperIsAt : Bytes → List Ask → Option LineNow → Option LineStory → Type 0
HelperIsAt path [] None None = Unit {0}
HelperIsAt path (a ∷ asks) (Some now) (Some line) = HelperStands path (a ∷ asks) now line
HelperIsAt path asks now line = ⊥

-- how the helper's link stands where it stopped the agent
abbrev pub HelperStopsAt : Bytes → List Ask → Ask → Option LineStory → AgentStatus → Type 0
HelperStopsAt path asks a line status.StationFault = IsHelperFront path (asks ++ a ∷ []) line
HelperStopsAt path asks a line status.NoMemory = IsHelperFront path (asks ++ a ∷ []) line
HelperStopsAt path asks a line (status.BadShake fault) = (l : LineStory) × (line ≡ Some l) × (asks ≡ []) × IsKnockingAtHelper path l × FailsIn l.read fault
HelperStopsAt path asks a line (status.BadBytes kind at) = (l : LineStory) × (line ≡ Some l) × HasConsulted path asks a l × (next_of l.rest ≡ Bad kind at)
HelperStopsAt path asks a line status.Cut =
    (l : LineStory) × (line ≡ Some l) × IsTrue l.ended
    × (((asks ≡ []) × IsKnockingAtHelper path l × (awaited l.read ≡ Open)) ⊎ (HasConsulted path asks a l × (next_of l.rest ≡ Partial)))
HelperStopsAt path asks a line other = ⊥

-- what the helper is asked, with its reply
abbrev pub asked : Bytes → ℕ → Bool → Ask
asked cookie uid refused = record { cookie = cookie; uid = uid; refused = refused }

-- a fault of a link, which the station counts when the link is hung up
abbrev pub link_fails : LineNow → Bool
link_fails now = has_fault now.read_faults now.write_faults

abbrev pub helper_fails : Option LineNow → Bool
helper_fails None = false
helper_fails (Some now) = link_fails now

-- a link fails that is told to fail
abbrev pub LinkCause : LineNow → AgentStatus → Type 0
LinkCause now status.StationFault = link_fails now ≡ true
LinkCause now status.WriteFault = ⊥
LinkCause now other = Unit {0}

-- The helper's link replied, or stopped the agent.
pub record LineReplied (path : Bytes) (asks : List Ask) (now : LineNow) : Type 0 where
  pub line : LineStory
  pub stands : HelperStands path asks now line

pub record LineStopped (path : Bytes) (asks : List Ask) (last : Ask) (now : LineNow) (why : AgentStatus) : Type 0 where
  pub line : LineStory
  pub told : IsToldBy now line
  pub stops : HelperStopsAt path asks last (Some line) why
  pub cause : LinkCause now why

abbrev pub ConsultedBy : Bytes → List Ask → Bytes → ℕ → LineNow → Result Bool AgentStatus → Type 0
ConsultedBy path asks cookie uid now (Ok refused) = LineReplied path (asks ++ asked cookie uid refused ∷ []) now
ConsultedBy path asks cookie uid now (Err why) = LineStopped path asks (asked cookie uid false) now why

-- what a function makes of the helper's link, whatever it was asked before
pub record Consults (cookie : Bytes) (uid : ℕ) (before now : LineNow) (result : Result Bool AgentStatus) : Type 0 where
  pub from : (path : Bytes) (asks : List Ask) (line : LineStory) → HelperStands path asks before line → ConsultedBy path asks cookie uid now result
  pub origin : now.origin ≡ before.origin

-- a link that was dialled, and nothing else
pub record IsDialled (path : Bytes) (now : LineNow) : Type 0 where
  pub told : IsToldBy now (dialled path)
  pub rest : now.rest ≡ []
  pub sent : now.sent ≡ 0
  pub sound : IsSound now

pub record Introduces (cookie : Bytes) (uid : ℕ) (before now : LineNow) (result : Result Bool AgentStatus) : Type 0 where
  pub from : (path : Bytes) → IsDialled path before → ConsultedBy path [] cookie uid now result
  pub origin : now.origin ≡ before.origin

-- The helper replied, or stopped the agent.
pub record HelperReplied (path : Bytes) (asks : List Ask) (now : Option LineNow) : Type 0 where
  pub line : Option LineStory
  pub at : HelperIsAt path asks now line

-- the cause by the counts of the station
abbrev pub HelperCause : ℕ → ℕ → Option LineNow → AgentStatus → Type 0
HelperCause before after now status.StationFault = Rose before after ⊎ (helper_fails now ≡ true)
HelperCause before after now status.WriteFault = ⊥
HelperCause before after now other = Unit {0}

pub record HelperStopped (path : Bytes) (asks : List Ask) (last : Ask) (faults_before faults : ℕ) (now : Option LineNow) (why : AgentStatus) : Type 0 where
  pub line : Option LineStory
  pub told : IsHelperTold now line
  pub stops : HelperStopsAt path asks last line why
  pub cause : HelperCause faults_before faults now why

abbrev pub AskedBy : Bytes → List Ask → Bytes → ℕ → ℕ → ℕ → Option LineNow → Result Bool AgentStatus → Type 0
AskedBy path asks cookie uid faults_before faults now (Ok refused) = HelperReplied path (asks ++ asked cookie uid refused ∷ []) now
AskedBy path asks cookie uid faults_before faults now (Err why) = HelperStopped path asks (asked cookie uid false) faults_before faults now why

-- what a function makes of a helper, whatever it was asked before
abbrev pub Asks : Bytes → Bytes → ℕ → ℕ → ℕ → Option LineNow → Option LineNow → Result Bool AgentStatus → Type 0
Asks path cookie uid faults_before faults before now result =
    (asks : List Ask) (line : Option LineStory) → HelperIsAt path asks before line → AskedBy path asks cookie uid faults_before faults now result

-- how many calls were sent to the helper
abbrev pub sent_to : Option LineNow → ℕ
sent_to None = 0
sent_to (Some now) = now.sent

-- a link was dialled, or the station refused it
abbrev pub DialsNew : Bytes → Option StationTold → Option StationTold → ℕ → ℕ → Result LineNow AgentStatus → Type 0
DialsNew path before after faults_before faults (Ok now) = Dials path before after now.origin × IsDialled path now
DialsNew path before after faults_before faults (Err status.StationFault) = (after ≡ before) × Rose faults_before faults
DialsNew path before after faults_before faults (Err status.NoMemory) = after ≡ before
DialsNew path before after faults_before faults (Err other) = ⊥

-- # The agent

-- a challenge as the rules handle it
abbrev pub challenge : Task → AgentBegin → Bool → Challenge
challenge t begin refused = record { begin = begin; handling = handling_for t.rules begin.action; refused = refused }

-- What the station and the output tell, and how often they failed.
pub record Outside : Type 0 where
  pub station : Option StationTold
  pub station_faults : ℕ
  pub output : Option Bytes
  pub output_faults : ℕ

abbrev pub outside : Option StationTold → ℕ → Option Bytes → ℕ → Outside
outside station station_faults output output_faults = record { station = station; station_faults = station_faults; output = output; output_faults = output_faults }

-- the links were dialled one after the other
abbrev pub AreDialled : Task → Option StationTold → Option StationTold → LineNow → Option LineNow → Type 0
AreDialled t before after desk helper = (between : Option StationTold) × Dials t.path before between desk.origin × DialsHelper t.helper between after None helper

-- the helper's link was dialled at its path
abbrev pub IsHelperPath : Bytes → Option LineStory → Type 0
IsHelperPath path None = Unit {0}
IsHelperPath path (Some line) = line.path ≡ path

-- The story is that of the connections, and of the station and the output since the start.
pub record IsStoryOf (t : Task) (start now : Outside) (desk : LineNow) (helper : Option LineNow) (s : Story) : Type 0 where
  pub desk_told : IsToldBy desk s.desk
  pub desk_path : s.desk.path ≡ t.path
  pub helper_path : IsHelperPath t.helper s.helper
  pub helper_told : IsHelperTold helper s.helper
  pub dialled : AreDialled t start.station now.station desk helper
  pub printed : Got start.output now.output s.printed
  pub station_later : start.station_faults ≤ now.station_faults
  pub output_later : start.output_faults ≤ now.output_faults

-- The link to the authority was dialled, and nothing else was done.
pub record Arriving (t : Task) (start now : Outside) (desk : LineNow) (helper : Option LineNow) : Type 0 where
  pub dialled : IsDialled t.path desk
  pub alone : helper ≡ None
  pub by_station : Dials t.path start.station now.station desk.origin
  pub output : now.output ≡ start.output
  pub station_later : start.station_faults ≤ now.station_faults
  pub output_later : start.output_faults ≤ now.output_faults

-- The agent is ready for the next challenge.
pub record Standing (t : Task) (start now : Outside) (desk : LineNow) (helper : Option LineNow) : Type 0 where
  pub story : Story
  pub of : IsStoryOf t start now desk helper story
  pub ready : IsReady t story
  pub rest : desk.rest ≡ story.desk.rest
  pub sent : desk.sent ≡ length story.met + 1
  pub sound : IsSound desk
  pub at : HelperIsAt t.helper (asks_of story.met) helper story.helper

-- the cause of an agent that is stopped, by the counts of the station, of the links and of the output
abbrev pub IsCaused : Outside → Outside → LineNow → Option LineNow → AgentStatus → Type 0
IsCaused start now desk helper status.StationFault = Rose start.station_faults now.station_faults ⊎ ((link_fails desk ≡ true) ⊎ (helper_fails helper ≡ true))
IsCaused start now desk helper status.WriteFault = Rose start.output_faults now.output_faults
IsCaused start now desk helper other = Unit {0}

-- It is stopped.
pub record Stopped (t : Task) (start now : Outside) (desk : LineNow) (helper : Option LineNow) (why : AgentStatus) : Type 0 where
  pub story : Story
  pub of : IsStoryOf t start now desk helper story
  pub stops : StopsAt t story why
  pub cause : IsCaused start now desk helper why

-- What is answered to a challenge, and where the helper stands behind it.
pub record IsAnswered (t : Task) (asks : List Ask) (begin : AgentBegin) (helper : Option LineNow) (reply : AgentReply) : Type 0 where
  pub refused : Bool
  pub reply_is : reply ≡ reply_of (challenge t begin refused)
  pub replied : HelperReplied t.helper (asks ++ option_to_list (ask_of (challenge t begin refused))) helper

-- The helper stopped the agent at a challenge.
pub record IsUnanswered (t : Task) (asks : List Ask) (begin : AgentBegin) (faults_before faults : ℕ) (helper : Option LineNow) (why : AgentStatus) : Type 0 where
  pub ask : Ask
  pub ask_is : ask_of (challenge t begin false) ≡ Some ask
  pub stopped : HelperStopped t.helper asks ask faults_before faults helper why

abbrev pub AnsweredBy : Task → List Ask → AgentBegin → ℕ → ℕ → Option LineNow → Result AgentReply AgentStatus → Type 0
AnsweredBy t asks begin faults_before faults helper (Ok reply) = IsAnswered t asks begin helper reply
AnsweredBy t asks begin faults_before faults helper (Err why) = IsUnanswered t asks begin faults_before faults helper why

-- what a function makes of a helper, whatever it was asked before
abbrev pub Answers : Task → AgentBegin → ℕ → ℕ → Option LineNow → Option LineNow → Result AgentReply AgentStatus → Type 0
Answers t begin faults_before faults before now result =
    (asks : List Ask) (line : Option LineStory) → HelperIsAt t.helper asks before line → AnsweredBy t asks begin faults_before faults now result

-- The line of a challenge was printed, or a prefix of it.
abbrev pub IsPrinted : Bytes → Bytes → Result (Unit {0}) Failed → Type 0
IsPrinted line written (Ok done) = written ≡ line
IsPrinted line written (Err failed) = IsFront written line

pub record Prints (action : Bytes) (reply : AgentReply) (before now : Option Bytes) (result : Result (Unit {0}) Failed) : Type 0 where
  pub written : Bytes
  pub got : Got before now written
  pub printed : IsPrinted (action ++ word_of reply) written result

-- it is registered, or is stopped
abbrev pub OpenedBy : Task → Outside → Outside → LineNow → Option LineNow → Result (Unit {0}) AgentStatus → Type 0
OpenedBy t start now desk helper (Ok done) = Standing t start now desk helper × (desk.sent ≡ 1)
OpenedBy t start now desk helper (Err why) = Stopped t start now desk helper why

abbrev pub Opens : Task → LineNow → LineNow → Result (Unit {0}) AgentStatus → Type 0
Opens t before after result = (start now : Outside) → Arriving t start now before None → OpenedBy t start now after None result

-- it goes on with one challenge more, or is stopped
abbrev pub MetBy : Task → Outside → Outside → LineNow → LineNow → Option LineNow → Result (Unit {0}) AgentStatus → Type 0
MetBy t start now before desk helper (Ok done) = Standing t start now desk helper × (desk.sent ≡ before.sent + 1)
MetBy t start now before desk helper (Err why) = Stopped t start now desk helper why

abbrev pub Meets : Task → Outside → LineNow → Option LineNow → Outside → LineNow → Option LineNow → Result (Unit {0}) AgentStatus → Type 0
Meets t old before helper_before now after helper result =
    (start : Outside) → Standing t start old before helper_before → MetBy t start now before after helper result

-- it met all challenges, or is stopped
abbrev pub ServedBy : Task → Outside → Outside → LineNow → Option LineNow → Result (Unit {0}) AgentStatus → Type 0
ServedBy t start now desk helper (Ok done) = Standing t start now desk helper × (desk.sent ≡ t.count + 1)
ServedBy t start now desk helper (Err why) = Stopped t start now desk helper why

abbrev pub Serves : Task → Outside → LineNow → Option LineNow → Outside → LineNow → Option LineNow → Result (Unit {0}) AgentStatus → Type 0
Serves t old before helper_before now after helper result =
    (start : Outside) → Arriving t start old before helper_before → ServedBy t start now after helper result
