use Rattle.authority_laws.proofs.Batching.{loads_named}
use Rattle.authority_laws.proofs.sent.outputs_name_loads.Goals as goal

pub returns : goal.returns
returns c = record { named = loads_named }
