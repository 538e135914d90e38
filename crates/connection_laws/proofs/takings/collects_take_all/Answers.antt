use Rattle.connection_laws.proofs.Taking.{collected_is, took_all, took_batch}
use Rattle.connection_laws.proofs.takings.collects_take_all.Goals as goal

pub returns : goal.returns
returns c = record { all = took_all; more = took_batch; number = collected_is }
