-- The run of an agent.
use Rattle.std.specs.Prelude.{◌≡◌, ℕ, ◌⊎◌, List, [], ◌∷◌, ◌++◌, length, Option, Some, None, IfSome}
use Rattle.std.specs.Option.{option_to_list}
use Rattle.pk_outside.specs.Causes.{Rose}
use Rattle.pk_outside.specs.Stations.{StationTold}
use Rattle.pk_outside.specs.Streams.{Got}
use Rattle.pk_outside.specs.Trees.{TreeTold, bytes_within, file_at}
use Rattle.pk_outside.specs.declared.tree.FileBytes.{FileBytes}
use Rattle.pk_outside.specs.declared.tree.FileBytes.TheVariants as file
use Rattle.authority_model.specs.Words.{Bytes}
use Rattle.agent_rules.specs.declared.line.Rule.{Rule}
use Rattle.agent_rules.specs.declared.rules.TheConstants.{MAX_RULE_FILE}
use Rattle.agent_rules.specs.Rules.{rules_in}
use Rattle.script_agent.specs.declared.status.AgentStatus.{AgentStatus}
use Rattle.script_agent.specs.declared.status.AgentStatus.TheVariants as status
use Rattle.script_agent.specs.declared.task.Task.{Task}
use Rattle.script_agent.specs.Lines.{LineStory}
use Rattle.script_agent.specs.Stations.{HungUp}
use Rattle.script_agent.specs.Steps.{Outside}
use Rattle.script_agent.specs.Stories.{Story, IsReady, StopsAt}

-- # The links of a task

-- The links of a story, in the order in which they were dialled and are hung up.
abbrev pub links_of : Story → List LineStory
links_of s = s.desk ∷ option_to_list s.helper

-- how an agent ends that dialled the authority
abbrev pub EndsAt : Task → Story → AgentStatus → Type 0
EndsAt t s status.Done = IsReady t s × (length s.met ≡ t.count)
EndsAt t s other = StopsAt t s other

-- The agent dialled, did what the story says, hung up, and ended with this status.
pub record Ran (t : Task) (start now : Outside) (why : AgentStatus) : Type 0 where
  pub story : Story
  pub hung : HungUp start.station now.station (links_of story)
  pub printed : Got start.output now.output story.printed
  pub ends : EndsAt t story why

-- Nothing was dialled and nothing printed: the station failed, or memory was refused.
pub record DidNothing (start now : Outside) : Type 0 where
  pub station : now.station ≡ start.station
  pub output : now.output ≡ start.output

abbrev pub NotDialled : Outside → Outside → AgentStatus → Type 0
NotDialled start now status.StationFault = DidNothing start now
NotDialled start now status.NoMemory = DidNothing start now
NotDialled start now other = ⊥

-- the causes by the counts of the station and of the output
abbrev pub CountsRose : Outside → Outside → AgentStatus → Type 0
CountsRose start now status.StationFault = Rose start.station_faults now.station_faults
CountsRose start now status.WriteFault = Rose start.output_faults now.output_faults
CountsRose start now other = Unit {0}

-- The run of an agent with its task: it ran, or could not dial.
pub record Attends (t : Task) (start now : Outside) (why : AgentStatus) : Type 0 where
  pub ran : NotDialled start now why ⊎ Ran t start now why
  pub causes : CountsRose start now why
