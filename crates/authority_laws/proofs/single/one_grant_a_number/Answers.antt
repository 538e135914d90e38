use Rattle.authority_laws.proofs.GrantNumbers.{one_number}
use Rattle.authority_laws.proofs.single.one_grant_a_number.Goals as goal

pub returns : goal.returns
returns c = record { by_number = one_number }
