use Rattle.audit_words.proofs.Putting.{one_digit, last_digit}
use Rattle.audit_words.proofs.salts.+put_hex.Goals as goal

pub returns-then-digits-eq1 : goal.returns-then-digits-eq1
returns-then-digits-eq1 t c = record { digits = one_digit c.args.line.now c.put.new.self c.args.digits c.args.n c.digit-last.result c.if-digits-eq1.true c.digit-last.ensures.digit c.put.ensures.put }

pub returns : goal.returns
returns t c = record {
  digits = last_digit c.args.line.now c.put_hex.new.line c.put-2.new.self c.args.digits c.args.n c.digit-last.result c.requires.some c.digit-last.ensures.digit
      c.put_hex.ensures.digits c.put-2.ensures.put;
}
