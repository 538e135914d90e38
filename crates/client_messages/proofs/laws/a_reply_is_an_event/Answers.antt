use Rattle.client_messages.proofs.Understood.{reply_replied}
use Rattle.client_messages.proofs.laws.a_reply_is_an_event.Goals as goal

pub returns : goal.returns
returns c = record { replied = reply_replied }
