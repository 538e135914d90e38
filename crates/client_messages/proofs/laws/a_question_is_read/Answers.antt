use Rattle.client_messages.proofs.Telling.{question_asked}
use Rattle.client_messages.proofs.laws.a_question_is_read.Goals as goal

pub returns : goal.returns
returns c = record { asked = question_asked }
