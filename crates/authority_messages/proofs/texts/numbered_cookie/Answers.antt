use Rattle.std.proofs.Common.{◌≡◌, ◌++◌, ◌<◌, ◌^◌, List, ℕ, ap, sym, subst, ◌∙◌, arith}
use Rattle.pk_types.specs.Text.{IsText}
use Rattle.authority_model.specs.declared.verdict.Cookie.{Cookie}
use Rattle.authority_model.specs.Cookies.{cookie_text}
use Rattle.authority_messages.proofs.Plain.{cookie_is_text, cookie_length}
use Rattle.authority_messages.proofs.texts.numbered_cookie.Goals as goal

pub of_known-requires : goal.of_known-requires
of_known-requires c =
    let cookie : Cookie = record { serial = c.args.serial; salt = c.args.salt } in
    let small : c.args.serial < 2 ^ 64 = omega arith in
    let e : c.as_bytes.result.now ≡ cookie_text cookie = c.as_bytes.ensures.value ∙ c.in_ok-push_text.ensures.ok ∙ ap (λ (x : List ℕ). x ++ cookie_text cookie) c.new-text.ensures.bytes in
    record { text = subst IsText (sym e) (cookie_is_text cookie small) }

pub returns-in_err-push_text-clause-known : goal.returns-in_err-push_text-clause-known
returns-in_err-push_text-clause-known c = cookie_is_text (record { serial = c.args.serial; salt = c.args.salt }) (omega arith)

pub returns-in_err-push_text-clause-short : goal.returns-in_err-push_text-clause-short
returns-in_err-push_text-clause-short c = cookie_length (record { serial = c.args.serial; salt = c.args.salt }) (omega arith)

pub returns-clause-known : goal.returns-clause-known
returns-clause-known c = cookie_is_text (record { serial = c.args.serial; salt = c.args.salt }) (omega arith)

pub returns-clause-short : goal.returns-clause-short
returns-clause-short c = cookie_length (record { serial = c.args.serial; salt = c.args.salt }) (omega arith)
