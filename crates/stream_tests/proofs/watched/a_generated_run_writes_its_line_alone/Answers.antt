-- What the run promises is what the rule allows.
use Rattle.stream_tests.proofs.Allowing.{may_line}
use Rattle.stream_tests.proofs.watched.a_generated_run_writes_its_line_alone.Goals as goal

pub load_run-status-requires-clause-may : goal.load_run-status-requires-clause-may
load_run-status-requires-clause-may g c κs = may_line _ c.over-output.ensures.unwritten
