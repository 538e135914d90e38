-- The segment that was due is written, and then the item is added.
use Rattle.authority_model.specs.Given.{event_given}
use Rattle.journal_segments.proofs.Steps.{step_entered}
use Rattle.journal_segments.proofs.segmented.Segmented.step.Goals as goal

pub returns-clause-entered : goal.returns-clause-entered
returns-clause-entered g c done is =
    step_entered (event_given c.args.caller c.args.moment c.args.salt c.args.event) done c.args.self.now c.write_due.new.self c.enter.new.self c.in_ok-write_due.ensures.ok is c.in_ok-enter.ensures.entered
