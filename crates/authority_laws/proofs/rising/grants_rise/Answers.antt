use Rattle.authority_laws.proofs.RisingLists.{grants_increase}
use Rattle.authority_laws.proofs.rising.grants_rise.Goals as goal

pub returns : goal.returns
returns c = record { rising = grants_increase }
