use Rattle.authority_laws.proofs.Sending.{sent_no_more}
use Rattle.authority_laws.proofs.sent.departed_are_sent_nothing.Goals as goal

pub returns : goal.returns
returns c = record { nothing = sent_no_more }
