use Rattle.authority_laws.proofs.RisingLists.{challenges_increase}
use Rattle.authority_laws.proofs.rising.challenges_rise.Goals as goal

pub returns : goal.returns
returns c = record { rising = challenges_increase }
