use Rattle.std.proofs.Common.{[], ◌∷◌, sym, subst, arith}
use Rattle.authority_messages.specs.Values.{string}
use Rattle.authority_messages.specs.Outgoing.{MayBeSent}
use Rattle.authority_messages.specs.Built.{Rows}
use Rattle.authority_messages.proofs.Signatures.{s_sig}
use Rattle.authority_messages.proofs.Sent.{return_is}
use Rattle.authority_messages.proofs.replies.named.Goals as goal

pub returns : goal.returns
returns c =
    let rows : Rows 0 c.add_string.new.values (string c.args.name.now ∷ []) = c.in_ok-add_string.ensures.ok [] 0 c.no_values-body.ensures.none in
    let message = c.return_to.ensures.message 0 (string c.args.name.now ∷ []) rows in
    record { message = message; form = subst MayBeSent (sym message) (return_is c.args.answered (string c.args.name.now ∷ []) c.requires (omega arith) s_sig (rows.fit 64 (omega arith))) }
