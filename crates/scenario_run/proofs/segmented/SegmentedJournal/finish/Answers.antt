-- The rest was written, and nothing more is.
use Rattle.scenario_run.specs.declared.segmented.Standing.TheVariants as standing
use Rattle.scenario_run.proofs.Recorded.{finished, finished_seen, going, recorded_rest}
use Rattle.scenario_run.proofs.segmented.SegmentedJournal.finish.Goals as goal

pub invariant_of-self : goal.invariant_of-self
invariant_of-self g c = (c.self.invariant.0, recorded_rest c.self.inside.segmented c.finish.new.self _ _ _ _ c.self.inside.actions _ c.self.inside.standing c.self.invariant.1 c.in-Ok.ensures.ok)

pub returns-in-Ok-clause-ok : goal.returns-in-Ok-clause-ok
returns-in-Ok-clause-ok g c =
    finished_seen _ _ _ _ c.self.view_is
    (finished c.self.inside.segmented _ _ _ _ c.self.inside.actions _ (going _ _ c.self.inside.segmented c.self.inside.actions _ c.self.inside.standing c.in-Going.is c.self.invariant.1) c.in-Ok.ensures.wrote c.in-Ok.ensures.faults)
