use Rattle.std.proofs.Common.{Option, sym, subst, ◌∙◌}
use Rattle.authority_calls.specs.declared.methods.Method.{Method}
use Rattle.client_messages.specs.Calls.{arguments_of}
use Rattle.client_messages.proofs.Calling.{Typed, typed, form_at}
use Rattle.client_messages.proofs.calls.call_out.Goals as goal

pub returns-clause-form : goal.returns-clause-form
returns-clause-form c = form_at c.calling.result (arguments_of c.args.call.now) c.in_ok-values-in-Some.values c.in-Some.method (subst (λ (o : Option Method). Typed c.args.call.now o) (sym c.method_of.ensures.method ∙ c.in-Some.is) (typed c.args.call.now)) c.in_ok-values-in-Some.ensures.values c.calling.ensures.form
