use Rattle.authority_laws.proofs.AgentsBack.{in_force_back}
use Rattle.authority_laws.proofs.looking_back.registrations_found.Goals as goal

pub returns : goal.returns
returns c = record { found = in_force_back }
