use Rattle.authority_laws.proofs.Sending.{sent_sendable}
use Rattle.authority_laws.proofs.sent.outputs_can_be_written.Goals as goal

pub returns : goal.returns
returns c = record { sendable = sent_sendable }
