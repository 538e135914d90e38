use Rattle.client_messages.proofs.Understood.{call_understood}
use Rattle.client_messages.proofs.laws.a_call_is_understood.Goals as goal

pub returns : goal.returns
returns c = record { asked = call_understood }
