use Rattle.client_messages.proofs.Telling.{answer_told}
use Rattle.client_messages.proofs.laws.an_answer_is_told.Goals as goal

pub returns-clause-told : goal.returns-clause-told
returns-clause-told c = answer_told
