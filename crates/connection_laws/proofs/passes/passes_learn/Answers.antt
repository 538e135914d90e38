use Rattle.connection_laws.proofs.Growing.{knows_entered, knows_learned, knows_self, knows_trans}
use Rattle.connection_laws.proofs.passes.passes_learn.Goals as goal

pub returns : goal.returns
returns c = record { alone = knows_self; others = knows_learned; own = knows_entered; further = knows_trans }
