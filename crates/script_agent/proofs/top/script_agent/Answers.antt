-- The top call, by where it ends.
use Rattle.script_agent.proofs.Tops.{rules_run, task_run, task_tree, usage_run, words_tree}
use Rattle.script_agent.proofs.top.script_agent.Goals as goal

pub returns-in-Err-clause-run : goal.returns-in-Err-clause-run
returns-in-Err-clause-run g c = usage_run c.args.words.now _ _ c.in-Err.status c.in-Err.ensures.plan

pub returns-in-Err-clause-tree_cause : goal.returns-in-Err-clause-tree_cause
returns-in-Err-clause-tree_cause g c = words_tree c.args.words.now _ _ c.in-Err.status c.in-Err.ensures.plan

pub returns-in-Err-rules_of-clause-run : goal.returns-in-Err-rules_of-clause-run
returns-in-Err-rules_of-clause-run g c = rules_run c.args.words.now _ c.in-Ok.plan _ c.in-Err-rules_of.status c.in-Ok.ensures.plan c.in-Err-rules_of.ensures.rules

pub returns-in-Err-rules_of-clause-tree_cause : goal.returns-in-Err-rules_of-clause-tree_cause
returns-in-Err-rules_of-clause-tree_cause g c = c.in-Err-rules_of.ensures.cause

pub attend-requires-clause-count : goal.attend-requires-clause-count
attend-requires-clause-count g c κs within = c.in-Ok.ensures.few

pub attend-requires-clause-free : goal.attend-requires-clause-free
attend-requires-clause-free g c κs within = c.requires.free

pub attend-requires-clause-free_link : goal.attend-requires-clause-free_link
attend-requires-clause-free_link g c κs within = c.requires.free_link

pub returns-clause-run : goal.returns-clause-run
returns-clause-run g c = task_run c.args.words.now _ c.in-Ok.plan c.in-Ok-rules_of.rules _ _ c.attend.result c.in-Ok.ensures.plan c.in-Ok-rules_of.ensures.rules c.attend.ensures.attends

pub returns-clause-tree_cause : goal.returns-clause-tree_cause
returns-clause-tree_cause g c = task_tree _ _ _ _ _ c.attend.result c.attend.ensures.attends
