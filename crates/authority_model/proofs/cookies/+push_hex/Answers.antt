use Rattle.authority_model.proofs.Digits.{push_none, push_last}
use Rattle.authority_model.proofs.cookies.+push_hex.Goals as goal

pub returns-then-digits-eq0 : goal.returns-then-digits-eq0
returns-then-digits-eq0 t c = record { ok = push_none _ c.args.digits c.args.n c.if-digits-eq0.true }

pub returns : goal.returns
returns t c = record {
  ok = push_last _ _ _ c.args.digits c.args.n c.digit_char.result c.if-digits-eq0.false c.in_ok-push_hex.ensures.ok
      (rw (c.in_ok-push.ensures.ascii c.digit_char.ensures.ascii) at c.in_ok-push.ensures.bytes)
      c.digit_char.ensures.digit;
}
