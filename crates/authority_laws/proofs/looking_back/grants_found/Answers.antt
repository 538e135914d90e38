use Rattle.authority_laws.proofs.GrantsBack.{live_both}
use Rattle.authority_laws.proofs.looking_back.grants_found.Goals as goal

pub returns : goal.returns
returns c = record { found = live_both }
