use Rattle.std.proofs.Common.{Some, arith}
use Rattle.connection_writer.proofs.Writes.{writes_nothing}
use Rattle.serving_tests.proofs.writers.write_the_same_at_desk.Goals as goal

pub write_at_desk-requires-clause-stands : goal.write_at_desk-requires-clause-stands
write_at_desk-requires-clause-stands g c κs within = (writes_nothing (Some c.in_ok-sink.sink.bytes.items) _ c.args.collector.now c.requires.fresh c.number-by.ensures.legal, omega arith)

pub write_at_desk-requires-clause-may : goal.write_at_desk-requires-clause-may
write_at_desk-requires-clause-may g c κs within = λ h collects journal licensed did front is. tt
