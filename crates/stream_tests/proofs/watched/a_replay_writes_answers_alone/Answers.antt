-- What the replay promises is what the rule allows, whatever a tree would tell, as none is read.
use Rattle.std.proofs.Common.{None}
use Rattle.stream_tests.proofs.Allowing.{may_answers}
use Rattle.stream_tests.proofs.watched.a_replay_writes_answers_alone.Goals as goal

pub replay-status-requires-clause-may : goal.replay-status-requires-clause-may
replay-status-requires-clause-may g c κs = may_answers _ None c.over-output.ensures.unwritten
