use Rattle.std.proofs.Common.{◌≡◌, sym, subst, arith}
use Rattle.std.proofs.lemmas.Result.{IfOk-weaker}
use Rattle.authority_messages.specs.Outgoing.{outgoing, IsSent}
use Rattle.authority_messages.specs.Messages.{too_long}
use Rattle.authority_messages.proofs.Sending.{too_long_sent}
use Rattle.authority_messages.proofs.replies.too_long.Goals as goal

pub returns : goal.returns
returns c = record {
  message = c.refusal.ensures.message;
  form = IfOk-weaker c.refusal.result (λ out. outgoing out ≡ too_long c.args.answered) (λ out. IsSent (outgoing out)) (λ out same. subst IsSent (sym same) (too_long_sent c.args.answered c.requires (omega arith))) c.refusal.ensures.message;
}
