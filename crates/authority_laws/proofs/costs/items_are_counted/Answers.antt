use Rattle.authority_laws.proofs.CountedItems.{bytes_are_counted, full_is}
use Rattle.authority_laws.proofs.costs.items_are_counted.Goals as goal

pub returns : goal.returns
returns c = record { bytes = bytes_are_counted; full = full_is }
