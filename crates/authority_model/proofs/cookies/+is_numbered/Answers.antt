use Rattle.std.proofs.Common.{◌∙◌, sym, ap, [], ◌∷◌, ◌++◌, ◌/◌, ◌-◌, codes}
use Rattle.std.specs.Prelude.{bytes_eq, decimal}
use Rattle.authority_model.specs.Cookies.{hex}
use Rattle.authority_model.proofs.Endings.{no_digits, more_digits}
use Rattle.authority_model.proofs.cookies.+is_numbered.Goals as goal

pub returns-then-digits-eq0 : goal.returns-then-digits-eq0
returns-then-digits-eq0 t c = record { is = c.is_dashed.ensures.is ∙ sym (ap (λ d. bytes_eq d c.args.text.now) (no_digits (decimal c.args.serial ++ codes "-") c.args.digits c.args.n c.if-digits-eq0.true)) }

pub returns-in-None : goal.returns-in-None
returns-in-None t c =
    let front = decimal c.args.serial ++ codes "-" ++ hex (c.args.digits - 1) (c.args.n / 16) in
    record {
      is = sym (ap (λ d. bytes_eq d c.args.text.now) (more_digits (decimal c.args.serial ++ codes "-") c.args.digits c.args.n c.if-digits-eq0.false)
          ∙ ap (λ d. bytes_eq (front ++ d ∷ []) c.args.text.now) (sym c.digit.ensures.digit)
          ∙ c.in-None.ensures.front front);
    }

pub returns-in-Some : goal.returns-in-Some
returns-in-Some t c =
    let front = decimal c.args.serial ++ codes "-" ++ hex (c.args.digits - 1) (c.args.n / 16) in
    record {
      is = c.is_numbered.ensures.is ∙ sym (ap (λ d. bytes_eq d c.args.text.now) (more_digits (decimal c.args.serial ++ codes "-") c.args.digits c.args.n c.if-digits-eq0.false)
          ∙ ap (λ d. bytes_eq (front ++ d ∷ []) c.args.text.now) (sym c.digit.ensures.digit)
          ∙ c.in-Some.ensures.front front);
    }
