use Rattle.client_messages.proofs.Short.{short}
use Rattle.client_messages.proofs.laws.a_call_without_details_is_short.Goals as goal

pub returns : goal.returns
returns c = record { short = short }
