use Rattle.std.proofs.Common.{rules, arith}
use Rattle.connection_writer.proofs.Writes.{writes_nothing}
use Rattle.connection_writer.specs.Writing.{WritesTo}
use Rattle.connection_serve.proofs.Returning.{both_left}
use Rattle.connection_serve.proofs.halves.beside.Goals as goal

pub read_with_writer-collector-requires-clause-stands : goal.read_with_writer-collector-requires-clause-stands
read_with_writer-collector-requires-clause-stands g c κs within = (writes_nothing (g.O.Sink.held c.args.sink.now) c.args.of c.args.collector.now c.requires.fresh_collector c.number-by.ensures.legal, omega arith)

pub returns-clause-writes : goal.returns-clause-writes
returns-clause-writes g c =
    let held = g.O.Sink.held c.args.sink.now in
    let faults = g.O.Sink.faults c.args.sink.now in
    let v = c.args.collector.now in
    let b = c.read_with_writer-collector.ensures in
    let names = b.names in
    both_left (λ w s. WritesTo g.L.LimitsName.limits c.args.of held faults v (g.O.Sink.held s) (g.O.Sink.faults s) w c.finish-wrote.result)
    (c.finish-wrote.ensures v held faults b.stands) (search rules) (search rules)

pub read_with_writer-collector-requires-clause-may : goal.read_with_writer-collector-requires-clause-may
read_with_writer-collector-requires-clause-may g c κs within = c.requires.may

pub finish-wrote-requires-clause-began : goal.finish-wrote-requires-clause-began
finish-wrote-requires-clause-began g c κs within = record {
  held_first = g.O.Sink.held c.args.sink.now;
  faults_first = g.O.Sink.faults c.args.sink.now;
  pass_first = c.args.collector.now;
  may = c.requires.may;
  stands = c.read_with_writer-collector.ensures.stands;
}
