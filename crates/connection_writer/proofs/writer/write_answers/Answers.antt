use Rattle.std.proofs.Common.{arith}
use Rattle.connection_writer.proofs.Writes.{writes_nothing}
use Rattle.connection_writer.proofs.writer.write_answers.Goals as goal

pub returns-clause-writes : goal.returns-clause-writes
returns-clause-writes g c = c.write_on.ensures.stands c.args.pass.now (g.O.Sink.held c.args.sink.now) (g.O.Sink.faults c.args.sink.now)
    (writes_nothing (g.O.Sink.held c.args.sink.now) c.args.of c.args.pass.now c.requires.fresh c.number-number.ensures.legal, omega arith)

pub write_on-requires-clause-began : goal.write_on-requires-clause-began
write_on-requires-clause-began g c κs within = record {
  held_first = g.O.Sink.held c.args.sink.now;
  faults_first = g.O.Sink.faults c.args.sink.now;
  pass_first = c.args.pass.now;
  may = c.requires.may;
  stands = (writes_nothing (g.O.Sink.held c.args.sink.now) c.args.of c.args.pass.now c.requires.fresh c.number-number.ensures.legal, omega arith);
}
