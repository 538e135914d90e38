use Rattle.connection_lookout.proofs.Unlisting.{unlist_entered, unlist_learned, unlist_none}
use Rattle.connection_lookout.proofs.unlistings.unlistings_grow.Goals as goal

pub returns : goal.returns
returns c = record { none = unlist_none; others = unlist_learned; own = unlist_entered }
