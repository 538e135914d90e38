-- The event is handed in after the first load.
use Rattle.scenario_run.proofs.Entering.{event_entered, event_refused}
use Rattle.scenario_run.proofs.scenario.ScenarioRun.act.Goals as goal

pub returns-clause-ok : goal.returns-clause-ok
returns-clause-ok g c = event_entered c.step.result c.args.self.now c.begin.new.self c.step.new.self c.args.caller c.args.event c.in_ok-begin.ensures.ok c.step.ensures.ok

pub returns-clause-refused : goal.returns-clause-refused
returns-clause-refused g c = event_refused c.step.result c.args.self.now c.begin.new.self c.step.new.self c.args.caller c.args.event c.in_ok-begin.ensures.ok c.in_ok-begin.ensures.text c.step.ensures.refused
