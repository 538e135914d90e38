-- The end of the run gives the status.
use Rattle.polkit_daemon.proofs.Faults.{replay_reads, replay_writes}
use Rattle.polkit_daemon.proofs.replaying.replay.Goals as goal

pub returns-clause-run : goal.returns-clause-run
returns-clause-run g c = record { stop = c.replay.result; status_is = c.of_replay.ensures.status; ends = c.replay.ensures.run }

pub returns-clause-read : goal.returns-clause-read
returns-clause-read g c = rw c.of_replay.ensures.status (replay_reads g.I.Source.left g.I.Source.faults _ _ c.replay.result c.replay.ensures.read)

pub returns-clause-write : goal.returns-clause-write
returns-clause-write g c = rw c.of_replay.ensures.status (replay_writes g.O.Sink.held g.O.Sink.faults _ _ c.replay.result c.replay.ensures.write)
