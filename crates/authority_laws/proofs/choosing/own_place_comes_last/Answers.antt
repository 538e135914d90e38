use Rattle.authority_laws.proofs.GreatestPair.{own_place_last}
use Rattle.authority_laws.proofs.choosing.own_place_comes_last.Goals as goal

pub returns : goal.returns
returns c = record { own_last = own_place_last }
