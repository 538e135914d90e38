use Rattle.authority_laws.proofs.AgentSteps.{one_agent}
use Rattle.authority_laws.proofs.single.one_registration_a_key.Goals as goal

pub returns : goal.returns
returns c = record { by_key = one_agent }
