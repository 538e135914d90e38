-- How writing at the desk begins.
use Rattle.std.proofs.Common.{Some}
use Rattle.serving_tests.proofs.writers.write_the_same_at_desk.Given as goal

abbrev pub ghosts-write_at_desk : goal.ghosts-write_at_desk
ghosts-write_at_desk g a = record {
  of = a.writer.of;
  pass = a.writer.pass.now;
  held = Some a.writer.sink.now.bytes.items;
  faults = a.writer.sink.now.calls.faults;
  pass_name = a.writer.pass.ghost_name;
  sink_name = a.writer.sink.ghost_name;
}
