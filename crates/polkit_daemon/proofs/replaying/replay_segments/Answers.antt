-- The end of the run gives the status.
use Rattle.polkit_daemon.proofs.Faults.{replay_counts, replay_reads, replay_writes}
use Rattle.polkit_daemon.proofs.replaying.replay_segments.Goals as goal

pub returns-clause-run : goal.returns-clause-run
returns-clause-run g c = record { stop = c.replay_segments.result; status_is = c.of_replay.ensures.status; ends = c.replay_segments.ensures.run }

pub returns-clause-fault : goal.returns-clause-fault
returns-clause-fault g c = rw c.of_replay.ensures.status (replay_counts _ _ c.replay_segments.result c.replay_segments.ensures.fault)

pub returns-clause-read : goal.returns-clause-read
returns-clause-read g c = rw c.of_replay.ensures.status (replay_reads g.I.Source.left g.I.Source.faults _ _ c.replay_segments.result c.replay_segments.ensures.read)

pub returns-clause-write : goal.returns-clause-write
returns-clause-write g c = rw c.of_replay.ensures.status (replay_writes g.O.Sink.held g.O.Sink.faults _ _ c.replay_segments.result c.replay_segments.ensures.write)
