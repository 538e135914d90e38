use Rattle.connection_laws.proofs.Doing.{did_entered, did_learned, did_none}
use Rattle.connection_laws.proofs.doings.doings_grow.Goals as goal

pub returns : goal.returns
returns c = record { none = did_none; others = did_learned; own = did_entered }
