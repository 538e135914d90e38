use Rattle.std.proofs.Common.{◌≡◌, sym, subst, arith}
use Rattle.std.proofs.lemmas.Result.{IfOk-weaker}
use Rattle.authority_messages.specs.Outgoing.{outgoing, error_to, IsSent}
use Rattle.client_messages.proofs.Calling.{error_sent}
use Rattle.client_messages.proofs.agent.error_out.Goals as goal

pub returns : goal.returns
returns c = record {
  message = c.refusal.ensures.message;
  form = IfOk-weaker c.refusal.result (λ out. outgoing out ≡ error_to c.args.to c.args.name.now c.args.text.now) (λ out. IsSent (outgoing out))
      (λ out same. subst IsSent (sym same) (error_sent c.args.to c.args.name.now c.args.text.now c.requires.to (omega arith) c.requires.name c.requires.text c.requires.short_name c.requires.short_text)) c.refusal.ensures.message;
}
