use Rattle.authority_messages.proofs.Building.{struct_built}
use Rattle.authority_messages.proofs.containers.structure.Goals as goal

pub returns : goal.returns
returns c = record { value = λ deep t ts rows. struct_built c.args.members deep t ts rows }
