use Rattle.authority_laws.proofs.Sending.{outputs_go}
use Rattle.authority_laws.proofs.sent.outputs_go_to_live_connections.Goals as goal

pub returns : goal.returns
returns c = record { goes = outputs_go }
