use Rattle.std.proofs.Common.{◌≡◌, ◌++◌, ◌<◌, ◌^◌, List, ℕ, ap, sym, subst, ◌∙◌, arith}
use Rattle.pk_types.specs.Text.{IsText}
use Rattle.authority_model.specs.Cookies.{grant_text}
use Rattle.authority_messages.proofs.Plain.{grant_is_text}
use Rattle.authority_messages.proofs.texts.grant_text.Goals as goal

pub of_known-requires : goal.of_known-requires
of_known-requires c =
    let small : c.args.id < 2 ^ 64 = omega arith in
    let e : c.as_bytes.result.now ≡ grant_text c.args.id = c.as_bytes.ensures.value ∙ c.in_ok-push_grant_text.ensures.ok ∙ ap (λ (x : List ℕ). x ++ grant_text c.args.id) c.new-text.ensures.bytes in
    record { text = subst IsText (sym e) (grant_is_text c.args.id small) }
