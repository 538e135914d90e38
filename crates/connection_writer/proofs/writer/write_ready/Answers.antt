use Rattle.std.proofs.Common.{None, arith}
use Rattle.connection_writer.proofs.Promising.{began_on}
use Rattle.connection_writer.proofs.writer.write_ready.Goals as goal

pub loop-turn-preserved : goal.loop-turn-preserved
loop-turn-preserved g c =
    let was = c.loop-turn.invariant.later in
    let later = c.in-Ok-true.ensures.later in
    record {
      stands = λ v held faults so. c.in-Ok-true.ensures.stands v held faults (c.loop-turn.invariant.stands v held faults so);
      later = omega (arith, was, later);
    }

pub returns-in-Ok-false-clause-stands : goal.returns-in-Ok-false-clause-stands
returns-in-Ok-false-clause-stands g c = λ v held faults so. c.in-Ok-false.ensures.stands v held faults (c.loop-turn.invariant.stands v held faults so)

pub returns-in-Err-clause-stands : goal.returns-in-Err-clause-stands
returns-in-Err-clause-stands g c = λ v held faults so. c.in-Err.ensures.stands v held faults (c.loop-turn.invariant.stands v held faults so)

pub write_next-requires-clause-began : goal.write_next-requires-clause-began
write_next-requires-clause-began g c κs within =
    began_on g.L.LimitsName.limits g.O.Sink.allowed c.args.of (g.O.Sink.held c.args.sink.now) (g.O.Sink.held c.loop-turn.sink) (g.O.Sink.faults c.args.sink.now) (g.O.Sink.faults c.loop-turn.sink) c.args.pass.now c.loop-turn.pass None None
    c.requires.began (λ v held faults so. c.loop-turn.invariant.stands v held faults so)
