-- Where memory was refused nothing was written.
use Rattle.connection_writer.specs.declared.ends.WriteStop.TheVariants as stop
use Rattle.connection_writer.proofs.Written.{front_none, upto_refused}
use Rattle.connection_writer.proofs.batches.add_message.Goals as goal

pub returns-in_err-put_message-clause-writes : goal.returns-in_err-put_message-clause-writes
returns-in_err-put_message-clause-writes g c = upto_refused _ _ _ _ c.from_residual.result stop.NoMemory c.from_residual.ensures.1 (front_none _ _)
