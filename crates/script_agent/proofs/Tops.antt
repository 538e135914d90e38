-- The top call, by its status.
use Rattle.std.proofs.Common.{◌≡◌, ℕ, ◌⊎◌, List, Option, Some, None, Result, Ok, Err, refl, sym, ap, ◌∙◌, inl, inr}
use Rattle.std.specs.Prelude.{IfSome}
use Rattle.pk_outside.specs.Trees.{TreeTold, bytes_within, file_at}
use Rattle.pk_outside.specs.declared.tree.FileBytes.{FileBytes}
use Rattle.authority_model.specs.Words.{Bytes}
use Rattle.agent_rules.specs.declared.line.Rule.{Rule}
use Rattle.agent_rules.specs.declared.rules.TheConstants.{MAX_RULE_FILE}
use Rattle.client_commands.specs.declared.agent.reading.AgentPlan.{AgentPlan}
use Rattle.client_commands.specs.AgentPlans.{plan_of}
use Rattle.script_agent.specs.declared.status.AgentStatus.{AgentStatus}
use Rattle.script_agent.specs.declared.status.AgentStatus.TheVariants as status
use Rattle.script_agent.specs.declared.task.Task.{Task}
use Rattle.script_agent.specs.Runs.{Attends, NotDialled, Ran}
use Rattle.script_agent.specs.Steps.{Outside}
use Rattle.script_agent.specs.TopCalls.{Plans, ReadsRules, Runs, RunsTask, TreeRose, rules_at, rules_of_file, task}

pub rules_told : (told : Option TreeTold) (path : Bytes) (found : FileBytes) (rules : Option (List Rule)) → IfSome told (λ tree. found ≡ bytes_within MAX_RULE_FILE (file_at tree.files path)) → rules_of_file found ≡ rules
    → IfSome told (λ tree. rules_at tree path ≡ rules)
rules_told None path found rules h e = tt
rules_told (Some tree) path found rules h e = ap rules_of_file (sym h) ∙ e

-- the words are not in the grammar
pub usage_run : (words : List Bytes) (tree : Option TreeTold) (start : Outside) (why : AgentStatus) → Plans words (Err why) → Runs words tree start start why
usage_run words tree start status.Done p = elim p [ ]
usage_run words tree start status.Refused p = elim p [ ]
usage_run words tree start status.Usage p = (p, refl)
usage_run words tree start status.TreeFault p = elim p [ ]
usage_run words tree start status.RuleFile p = elim p [ ]
usage_run words tree start status.StationFault p = elim p [ ]
usage_run words tree start status.WriteFault p = elim p [ ]
usage_run words tree start (status.BadShake fault) p = elim p [ ]
usage_run words tree start (status.BadBytes kind at) p = elim p [ ]
usage_run words tree start status.Cut p = elim p [ ]
usage_run words tree start status.NoMemory p = inl refl

-- the rule file has no rules
pub rules_run : (words : List Bytes) (tree : Option TreeTold) (plan : AgentPlan) (start : Outside) (why : AgentStatus) → plan_of words ≡ Some plan → ReadsRules tree plan.rules (Err why) → Runs words tree start start why
rules_run words tree plan start status.Done p r = elim r [ ]
rules_run words tree plan start status.Refused p r = elim r [ ]
rules_run words tree plan start status.Usage p r = elim r [ ]
rules_run words tree plan start status.TreeFault p r = record { plan = plan; plan_is = p; same = refl }
rules_run words tree plan start status.RuleFile p r = (record { plan = plan; plan_is = p; same = refl }, r)
rules_run words tree plan start status.StationFault p r = elim r [ ]
rules_run words tree plan start status.WriteFault p r = elim r [ ]
rules_run words tree plan start (status.BadShake fault) p r = elim r [ ]
rules_run words tree plan start (status.BadBytes kind at) p r = elim r [ ]
rules_run words tree plan start status.Cut p r = elim r [ ]
rules_run words tree plan start status.NoMemory p r = inl refl

-- an agent with its task does not end so
no_usage : {t : Task} {start now : Outside} → Attends t start now status.Usage → ⊥
no_usage a = no a.ran
  where
    no : {t : Task} {start now : Outside} → NotDialled start now status.Usage ⊎ Ran t start now status.Usage → ⊥
    no (inl x) = x
    no (inr x) = x.ends

no_tree : {t : Task} {start now : Outside} → Attends t start now status.TreeFault → ⊥
no_tree a = no a.ran
  where
    no : {t : Task} {start now : Outside} → NotDialled start now status.TreeFault ⊎ Ran t start now status.TreeFault → ⊥
    no (inl x) = x
    no (inr x) = x.ends

no_file : {t : Task} {start now : Outside} → Attends t start now status.RuleFile → ⊥
no_file a = no a.ran
  where
    no : {t : Task} {start now : Outside} → NotDialled start now status.RuleFile ⊎ Ran t start now status.RuleFile → ⊥
    no (inl x) = x
    no (inr x) = x.ends

-- the task was done as far as its end says
pub task_run : (words : List Bytes) (tree : Option TreeTold) (plan : AgentPlan) (rules : List Rule) (start now : Outside) (why : AgentStatus) → plan_of words ≡ Some plan → ReadsRules tree plan.rules (Ok rules) → Attends (task plan rules) start now why → Runs words tree start now why
task_run words tree plan rules start now status.Done p r a = record { plan = plan; rules = rules; plan_is = p; rules_are = r; attends = a }
task_run words tree plan rules start now status.Refused p r a = record { plan = plan; rules = rules; plan_is = p; rules_are = r; attends = a }
task_run words tree plan rules start now status.Usage p r a = absurd (no_usage a)
task_run words tree plan rules start now status.TreeFault p r a = absurd (no_tree a)
task_run words tree plan rules start now status.RuleFile p r a = absurd (no_file a)
task_run words tree plan rules start now status.StationFault p r a = record { plan = plan; rules = rules; plan_is = p; rules_are = r; attends = a }
task_run words tree plan rules start now status.WriteFault p r a = record { plan = plan; rules = rules; plan_is = p; rules_are = r; attends = a }
task_run words tree plan rules start now (status.BadShake fault) p r a = record { plan = plan; rules = rules; plan_is = p; rules_are = r; attends = a }
task_run words tree plan rules start now (status.BadBytes kind at) p r a = record { plan = plan; rules = rules; plan_is = p; rules_are = r; attends = a }
task_run words tree plan rules start now status.Cut p r a = record { plan = plan; rules = rules; plan_is = p; rules_are = r; attends = a }
task_run words tree plan rules start now status.NoMemory p r a = inr (record { plan = plan; rules = rules; plan_is = p; rules_are = r; attends = a })

-- and the tree did not fail in it
pub task_tree : (t : Task) (start now : Outside) (before after : ℕ) (why : AgentStatus) → Attends t start now why → TreeRose before after why
task_tree t start now before after status.Done a = tt
task_tree t start now before after status.Refused a = tt
task_tree t start now before after status.Usage a = tt
task_tree t start now before after status.TreeFault a = absurd (no_tree a)
task_tree t start now before after status.RuleFile a = tt
task_tree t start now before after status.StationFault a = tt
task_tree t start now before after status.WriteFault a = tt
task_tree t start now before after (status.BadShake fault) a = tt
task_tree t start now before after (status.BadBytes kind at) a = tt
task_tree t start now before after status.Cut a = tt
task_tree t start now before after status.NoMemory a = tt

-- nor in the words
pub words_tree : (words : List Bytes) (before after : ℕ) (why : AgentStatus) → Plans words (Err why) → TreeRose before after why
words_tree words before after status.Done p = tt
words_tree words before after status.Refused p = tt
words_tree words before after status.Usage p = tt
words_tree words before after status.TreeFault p = elim p [ ]
words_tree words before after status.RuleFile p = tt
words_tree words before after status.StationFault p = tt
words_tree words before after status.WriteFault p = tt
words_tree words before after (status.BadShake fault) p = tt
words_tree words before after (status.BadBytes kind at) p = tt
words_tree words before after status.Cut p = tt
words_tree words before after status.NoMemory p = tt
