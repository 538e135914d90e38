use Rattle.authority_messages.proofs.Shown.{told}
use Rattle.authority_messages.proofs.laws.a_reply_tells_its_verdict.Goals as goal

pub returns : goal.returns
returns c = record { told = told }
