use Rattle.authority_laws.proofs.Batching.{sent_few}
use Rattle.authority_laws.proofs.FewOutputs.{last_few}
use Rattle.authority_laws.proofs.sent.outputs_are_few.Goals as goal

pub returns : goal.returns
returns c = record { few = sent_few; last = last_few }
