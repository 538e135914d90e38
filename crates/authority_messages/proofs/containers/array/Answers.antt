use Rattle.authority_messages.proofs.Building.{array_copied}
use Rattle.authority_messages.proofs.containers.array.Goals as goal

pub returns : goal.returns
returns c = record { value = array_copied c.in_ok-of.of c.args.of.now c.args.items c.in_ok-of.ensures.text c.requires.item }
