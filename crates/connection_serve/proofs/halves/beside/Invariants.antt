-- How writing begins.
use Rattle.connection_serve.proofs.halves.beside.Given as goal

abbrev pub ghosts-read_with_writer : goal.ghosts-read_with_writer
ghosts-read_with_writer g a = record {
  of = a.of;
  pass = a.collector.now;
  held = g.O.Sink.held a.sink.now;
  faults = g.O.Sink.faults a.sink.now;
  pass_name = a.collector.ghost_name;
  sink_name = a.sink.ghost_name;
}
