use Rattle.authority_laws.proofs.CountedBytes.{counted}
use Rattle.authority_laws.proofs.costs.outputs_are_counted.Goals as goal

pub returns : goal.returns
returns c = record { counted = counted }
