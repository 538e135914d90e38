use Rattle.authority_laws.proofs.Sending.{beginning_legal}
use Rattle.authority_laws.proofs.sent.beginnings_are_legal.Goals as goal

pub returns : goal.returns
returns c = record { legal = beginning_legal }
