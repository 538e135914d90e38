use Rattle.authority_laws.proofs.PendingBack.{answered_back, answered_forth}
use Rattle.authority_laws.proofs.looking_back.answers_found.Goals as goal

pub returns : goal.returns
returns c = record { found = λ past legal ch there identity. (answered_back past legal ch there identity, answered_forth past legal ch there identity) }
