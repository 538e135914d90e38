use Rattle.authority_laws.proofs.PendingBack.{pending_both}
use Rattle.authority_laws.proofs.looking_back.challenges_found.Goals as goal

pub returns : goal.returns
returns c = record { found = pending_both }
