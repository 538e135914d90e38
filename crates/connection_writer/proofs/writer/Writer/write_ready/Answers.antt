use Rattle.connection_writer.proofs.Writes.{not_some}
use Rattle.std.proofs.Common.{Option, subst}
use Rattle.connection_writer.specs.declared.ends.WriterEnd.{WriterEnd}
use Rattle.connection_writer.specs.Promises.{Began}
use Rattle.connection_writer.proofs.writer.Writer.write_ready.Goals as goal

pub returns-then-is_none-clause-stands : goal.returns-then-is_none-clause-stands
returns-then-is_none-clause-stands g c = λ v held faults so.
    let none = not_some c.args.self.now.end c.if-is_none.ensures in
    c.write_ready-self.ensures.stands v held faults (rw none at so)

pub write_ready-self-requires-clause-began : goal.write_ready-self-requires-clause-began
write_ready-self-requires-clause-began g c κs within =
    let was = c.args.self.now in
    subst (λ (end : Option WriterEnd). Began g.L.LimitsName.limits g.O.Sink.allowed was.of (g.O.Sink.held was.sink.now) (g.O.Sink.faults was.sink.now) was.pass.now end) (not_some was.end c.if-is_none.ensures) c.requires.began
