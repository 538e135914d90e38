use Rattle.authority_laws.proofs.ListedKeys.{agents_listed, pending_listed}
use Rattle.authority_laws.proofs.GrantNumbers.{grants_listed}
use Rattle.authority_laws.proofs.listed.keys_are_listed.Goals as goal

pub returns : goal.returns
returns c = record {
  agents = agents_listed;
  challenges = λ past legal ch there. (pending_listed past legal ch there).0;
  challenge_agents = λ past legal ch there. (pending_listed past legal ch there).1;
  grants = grants_listed;
}
