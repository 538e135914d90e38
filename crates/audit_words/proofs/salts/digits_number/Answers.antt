use Rattle.std.proofs.Common.{arith, length}
use Rattle.audit_words.proofs.SaltBounds.{digit_fits, digit_more, digit_read}
use Rattle.audit_words.proofs.salts.digits_number.Goals as goal

pub overflow_mul-value : goal.overflow_mul-value
overflow_mul-value c =
    let h = c.loop-c.invariant in
    omega (arith, digit_fits c.loop-c.value c.in-Some-value.digit (length c.loop-c.rest.now) (omega (arith, c.in-Some.ensures.cases.1)) h.left h.small c.in-Some-value.ensures.small)

pub overflow_add-value : goal.overflow_add-value
overflow_add-value c =
    let h = c.loop-c.invariant in
    omega (arith, digit_fits c.loop-c.value c.in-Some-value.digit (length c.loop-c.rest.now) (omega (arith, c.in-Some.ensures.cases.1)) h.left h.small c.in-Some-value.ensures.small)

pub loop-c-preserved : goal.loop-c-preserved
loop-c-preserved c =
    let h = c.loop-c.invariant in
    let cut = c.in-Some.ensures.cases in
    record {
      same = digit_read c.loop-c.value c.from.result c.in-Some.c.now c.loop-c.rest.now c.in-Some.behind.now c.args.word.now cut.0
          (rw c.from.ensures c.in-Some-value.ensures.value) h.same;
      left = omega (arith, cut.1, h.left);
      small = digit_more c.loop-c.value c.from.result (length c.loop-c.rest.now) (length c.in-Some.behind.now) cut.1 h.left h.small
          (rw c.from.ensures c.in-Some-value.ensures.small);
    }
