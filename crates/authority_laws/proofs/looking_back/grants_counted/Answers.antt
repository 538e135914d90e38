use Rattle.authority_laws.proofs.GrantsBack.{made_both}
use Rattle.authority_laws.proofs.looking_back.grants_counted.Goals as goal

pub returns : goal.returns
returns c = record { counted = made_both }
