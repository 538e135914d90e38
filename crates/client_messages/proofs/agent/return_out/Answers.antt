use Rattle.std.proofs.Common.{sym, subst, arith}
use Rattle.authority_messages.specs.Outgoing.{IsSent}
use Rattle.client_messages.proofs.Calling.{return_sent}
use Rattle.client_messages.proofs.agent.return_out.Goals as goal

pub returns : goal.returns
returns c = record { message = c.done.ensures.message; form = subst IsSent (sym c.done.ensures.message) (return_sent c.args.to c.requires (omega arith)) }
