-- The top call: its words, its rule file, and its task.
use Rattle.std.specs.Prelude.{◌≡◌, ℕ, ◌⊎◌, List, Option, Some, None, IfSome, Result, Ok, Err}
use Rattle.pk_outside.specs.Causes.{Rose}
use Rattle.pk_outside.specs.Trees.{TreeTold, bytes_within, file_at}
use Rattle.pk_outside.specs.declared.tree.FileBytes.{FileBytes}
use Rattle.pk_outside.specs.declared.tree.FileBytes.TheVariants as file
use Rattle.authority_model.specs.Words.{Bytes}
use Rattle.agent_rules.specs.declared.line.Rule.{Rule}
use Rattle.agent_rules.specs.declared.rules.TheConstants.{MAX_RULE_FILE}
use Rattle.agent_rules.specs.Rules.{rules_in}
use Rattle.client_commands.specs.declared.agent.reading.AgentPlan.{AgentPlan}
use Rattle.client_commands.specs.AgentPlans.{plan_of}
use Rattle.script_agent.specs.declared.status.AgentStatus.{AgentStatus}
use Rattle.script_agent.specs.declared.status.AgentStatus.TheVariants as status
use Rattle.script_agent.specs.declared.task.Task.{Task}
use Rattle.script_agent.specs.Runs.{Attends}
use Rattle.script_agent.specs.Steps.{Outside}

-- the rules of what stands at a path: none where nothing stands there, or too much
abbrev pub rules_of_file : FileBytes → Option (List Rule)
rules_of_file (file.Bytes bytes) = rules_in bytes
rules_of_file file.Absent = None
rules_of_file file.TooLong = None

abbrev pub rules_at : TreeTold → Bytes → Option (List Rule)
rules_at tree path = rules_of_file (bytes_within MAX_RULE_FILE (file_at tree.files path))

-- The rules of the file that the tree tells; where it tells none, these are some rules.
abbrev pub ReadsRules : Option TreeTold → Bytes → Result (List Rule) AgentStatus → Type 0
ReadsRules told path (Ok rules) = IfSome told (λ tree. rules_at tree path ≡ Some rules)
ReadsRules told path (Err status.RuleFile) = IfSome told (λ tree. rules_at tree path ≡ None)
ReadsRules told path (Err status.TreeFault) = Unit {0}
ReadsRules told path (Err status.NoMemory) = Unit {0}
ReadsRules told path (Err other) = ⊥

-- what the words ask, or that they are not in the grammar
abbrev pub Plans : List Bytes → Result AgentPlan AgentStatus → Type 0
Plans words (Ok plan) = plan_of words ≡ Some plan
Plans words (Err status.Usage) = plan_of words ≡ None
Plans words (Err status.NoMemory) = Unit {0}
Plans words (Err other) = ⊥

-- what a plan and its rules ask of the agent
abbrev pub task : AgentPlan → List Rule → Task
task p rules = record { uid = p.uid; path = p.path; helper = p.helper; session = p.session; rules = rules; count = p.count }

-- The words are in the grammar, the rule file has rules, and the task of both was done as far as its
-- end says.
pub record RunsTask (words : List Bytes) (tree : Option TreeTold) (start now : Outside) (why : AgentStatus) : Type 0 where
  pub plan : AgentPlan
  pub rules : List Rule
  pub plan_is : plan_of words ≡ Some plan
  pub rules_are : ReadsRules tree plan.rules (Ok rules)
  pub attends : Attends (task plan rules) start now why

-- The words are in the grammar, and nothing was dialled or printed.
pub record Ended (words : List Bytes) (start now : Outside) : Type 0 where
  pub plan : AgentPlan
  pub plan_is : plan_of words ≡ Some plan
  pub same : now ≡ start

-- What an agent did, by its status.
abbrev pub Runs : List Bytes → Option TreeTold → Outside → Outside → AgentStatus → Type 0
Runs words tree start now status.Usage = (plan_of words ≡ None) × (now ≡ start)
Runs words tree start now status.TreeFault = Ended words start now
Runs words tree start now status.RuleFile = (e : Ended words start now) × ReadsRules tree e.plan.rules (Err status.RuleFile)
Runs words tree start now status.NoMemory = (now ≡ start) ⊎ RunsTask words tree start now status.NoMemory
Runs words tree start now other = RunsTask words tree start now other

-- a fault of the tree is told only where its count rose
abbrev pub TreeRose : ℕ → ℕ → AgentStatus → Type 0
TreeRose before now status.TreeFault = Rose before now
TreeRose before now other = Unit {0}

abbrev pub TreeCauses : {A : Type 0} → ℕ → ℕ → Result A AgentStatus → Type 0
TreeCauses before now (Ok rules) = Unit {0}
TreeCauses before now (Err why) = TreeRose before now why
