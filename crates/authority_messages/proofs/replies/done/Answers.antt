use Rattle.std.proofs.Common.{[], sym, subst, arith}
use Rattle.authority_messages.specs.Outgoing.{MayBeSent}
use Rattle.authority_messages.proofs.Signatures.{empty_sig}
use Rattle.authority_messages.proofs.Sent.{return_is}
use Rattle.authority_messages.proofs.replies.done.Goals as goal

pub returns : goal.returns
returns c =
    let message = c.return_to.ensures.message 0 [] c.no_values.ensures.none in
    record { message = message; form = subst MayBeSent (sym message) (return_is c.args.answered [] c.requires (omega arith) empty_sig tt) }
