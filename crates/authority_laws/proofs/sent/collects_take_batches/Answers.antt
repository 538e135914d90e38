use Rattle.authority_laws.proofs.Batching.{takes_batch}
use Rattle.authority_laws.proofs.sent.collects_take_batches.Goals as goal

pub returns : goal.returns
returns c = record { batch = takes_batch }
