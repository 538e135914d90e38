use Rattle.authority_messages.specs.Values.{string}
use Rattle.authority_messages.proofs.Building.{one_at}
use Rattle.authority_messages.proofs.Signatures.{s_sig, s_one}
use Rattle.client_messages.proofs.arguments.bus_name.Goals as goal

pub returns : goal.returns
returns c = record { value = one_at c.known_by_one.result _ _ _ (string c.args.name.now) s_sig s_one c.in_ok-name.ensures.value c.known_by_one.ensures.value }
