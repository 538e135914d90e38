-- After an entry nothing is loaded.
use Rattle.std.proofs.Common.{ap}
use Rattle.scenario_run.specs.Scene.{handed_in}
use Rattle.scenario_run.proofs.Begun.{begun_before}
use Rattle.scenario_run.proofs.scenario.ScenarioRun.begin.Goals as goal

pub returns-then-not-is_empty-clause-ok : goal.returns-then-not-is_empty-clause-ok
returns-then-not-is_empty-clause-ok g c =
    ap (handed_in c.args.self.now)
    (begun_before c.args.self.now c.self.inside.journal.keeping c.self.inside.draft c.self.inside.moment c.self.inside.journal.past c.self.view_is c.if-not-is_empty.ensures.empty)
