use Rattle.std.proofs.Common.{◌≡◌, ℕ, List, true, IfOk, sym, subst, ◌∙◌}
use Rattle.authority_model.specs.Causes.{error_text}
use Rattle.authority_messages.specs.Plain.{is_plain}
use Rattle.authority_messages.specs.Outgoing.{outgoing, error_to}
use Rattle.authority_messages.proofs.Causes.{name_plain, text_plain}
use Rattle.authority_messages.proofs.replies.refused.Goals as goal

pub refusal-requires : goal.refusal-requires
refusal-requires c = record {
  answered = c.requires;
  name = subst (λ (n : List ℕ). is_plain n ≡ true) (sym (c.as_str.ensures.value ∙ c.in_ok-name.ensures.name)) (name_plain c.args.cause);
  text = subst (λ (t : List ℕ). is_plain t ≡ true) (sym c.text.ensures.text) (text_plain c.args.cause);
}

pub returns : goal.returns
returns c = record {
  message = subst (λ (n : List ℕ). IfOk c.refusal.result (λ out. outgoing out ≡ error_to c.args.answered n (error_text c.args.cause))) (c.as_str.ensures.value ∙ c.in_ok-name.ensures.name)
      (subst (λ (t : List ℕ). IfOk c.refusal.result (λ out. outgoing out ≡ error_to c.args.answered c.as_str.result.now t)) c.text.ensures.text c.refusal.ensures.message);
  form = c.refusal.ensures.form;
}
