use Rattle.std.proofs.Common.{Option, subst}
use Rattle.connection_writer.specs.declared.ends.WriterEnd.{WriterEnd}
use Rattle.connection_writer.specs.Promises.{Began}
use Rattle.connection_serve.proofs.halves.finish.Goals as goal

pub returns-in-None : goal.returns-in-None
returns-in-None g c = λ v held faults so. c.write_on.ensures.stands v held faults (rw c.in-None.is at so)

pub write_on-requires-clause-began : goal.write_on-requires-clause-began
write_on-requires-clause-began g c κs within =
    subst (λ (end : Option WriterEnd). Began g.L.LimitsName.limits g.O.Sink.allowed c.args.of (g.O.Sink.held c.args.sink.now) (g.O.Sink.faults c.args.sink.now) c.args.collector.now end) c.in-None.is c.requires.began
