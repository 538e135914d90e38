use Rattle.std.proofs.Common.{◌∙◌, sym, ap, [], ◌/◌, arith}
use Rattle.std.specs.Prelude.{bytes_eq, decimal}
use Rattle.authority_model.proofs.Endings.{one_digit, more_digits_of_ten, last_digit, nothing_is}
use Rattle.authority_model.proofs.cookies.+is_decimal.Goals as goal

pub returns-in-None : goal.returns-in-None
returns-in-None t c =
    let last = last_digit c.args.n (omega arith) in
    record { is = sym (ap (λ d. bytes_eq d c.args.text.now) last.1 ∙ c.in-None.ensures.front last.0) }

pub returns-then-n-lt10 : goal.returns-then-n-lt10
returns-then-n-lt10 t c = record { is = c.is_empty.ensures ∙ nothing_is c.in-Some.front.now ∙ sym (ap (λ d. bytes_eq d c.args.text.now) (one_digit c.args.n c.if-n-lt10.true) ∙ c.in-Some.ensures.front []) }

pub returns-else-n-lt10 : goal.returns-else-n-lt10
returns-else-n-lt10 t c = record { is = c.is_decimal.ensures.is ∙ sym (ap (λ d. bytes_eq d c.args.text.now) (more_digits_of_ten c.args.n (omega arith) (omega arith)) ∙ c.in-Some.ensures.front (decimal (c.args.n / 10))) }
