-- A scalar's bytes are taken one after another.
use Rattle.std.proofs.Common.{◌-◌, suc, refl, ap, ◌∙◌, arith}
use Rattle.std.specs.Str.{chars}
use Rattle.std.proofs.lemmas.Str.{chars-nil}
use Rattle.glob_match.proofs.Scalars.{chars-cons, chars_after-zero, chars_after-nil, continuation_len-three, nil_of_length, last_end, last_scalar}
use Rattle.glob_match.proofs.scalar.next_scalar.Goals as goal

pub returns-in_err-first-clause-end : goal.returns-in_err-first-clause-end
returns-in_err-first-clause-end c = rw c.from_residual.ensures (ap chars (nil_of_length _ c.in_err-first.ensures.cases) ∙ chars-nil)

pub returns-then-following-eq0-clause-scalar : goal.returns-then-following-eq0-clause-scalar
returns-then-following-eq0-clause-scalar c =
    chars-cons _ _ _ 0 _ _ c.in_ok-first.ensures.cases.0 c.lead-following.ensures.following c.lead-following.ensures.bits c.if-following-eq0.true
    ∙ chars_after-zero _ _

pub returns-in_err-bits-clause-end : goal.returns-in_err-bits-clause-end
returns-in_err-bits-clause-end c =
    rw c.from_residual-in_err-bits.ensures (
    chars-cons _ _ _ _ _ _ c.in_ok-first.ensures.cases.0 c.lead-following.ensures.following c.lead-following.ensures.bits refl
    ∙ chars_after-nil _ _ _ c.if-following-eq0.false c.in_err-bits.ensures.end
    )

pub returns-then-following-eq1-clause-scalar : goal.returns-then-following-eq1-clause-scalar
returns-then-following-eq1-clause-scalar c =
    chars-cons _ _ _ 1 _ _ c.in_ok-first.ensures.cases.0 c.lead-following.ensures.following c.lead-following.ensures.bits c.if-following-eq1.true
    ∙ c.in_ok-bits.ensures.bits 0
    ∙ chars_after-zero _ _

pub returns-in_err-bits-2-clause-end : goal.returns-in_err-bits-2-clause-end
returns-in_err-bits-2-clause-end c =
    rw c.from_residual-in_err-bits-2.ensures (
    let left = c.lead-following.result.0 - 1 in
    chars-cons _ _ _ (suc left) _ _ c.in_ok-first.ensures.cases.0 c.lead-following.ensures.following c.lead-following.ensures.bits (omega arith)
    ∙ c.in_ok-bits.ensures.bits left
    ∙ chars_after-nil left _ _ (λ z. c.if-following-eq1.false (omega (arith, z))) c.in_err-bits-2.ensures.end
    )

pub returns-then-following-eq2-clause-scalar : goal.returns-then-following-eq2-clause-scalar
returns-then-following-eq2-clause-scalar c =
    chars-cons _ _ _ 2 _ _ c.in_ok-first.ensures.cases.0 c.lead-following.ensures.following c.lead-following.ensures.bits c.if-following-eq2.true
    ∙ c.in_ok-bits.ensures.bits 1
    ∙ c.in_ok-bits-2.ensures.bits 0
    ∙ chars_after-zero _ _

pub returns-clause-end : goal.returns-clause-end
returns-clause-end c =
    last_end c.with_next-3.result c.args.bytes.now c.in_ok-bits-2.rest.now c.in_ok-bits-2.bits (
    chars-cons _ _ _ 3 _ _ c.in_ok-first.ensures.cases.0 c.lead-following.ensures.following c.lead-following.ensures.bits
    (continuation_len-three c.in_ok-first.first.now _ c.lead-following.ensures.following c.if-following-eq0.false c.if-following-eq1.false c.if-following-eq2.false)
    ∙ c.in_ok-bits.ensures.bits 2
    ∙ c.in_ok-bits-2.ensures.bits 1
    ) c.with_next-3.ensures.end

pub returns-clause-scalar : goal.returns-clause-scalar
returns-clause-scalar c =
    last_scalar c.with_next-3.result c.args.bytes.now c.in_ok-bits-2.rest.now c.in_ok-bits-2.bits (
    chars-cons _ _ _ 3 _ _ c.in_ok-first.ensures.cases.0 c.lead-following.ensures.following c.lead-following.ensures.bits
    (continuation_len-three c.in_ok-first.first.now _ c.lead-following.ensures.following c.if-following-eq0.false c.if-following-eq1.false c.if-following-eq2.false)
    ∙ c.in_ok-bits.ensures.bits 2
    ∙ c.in_ok-bits-2.ensures.bits 1
    ) c.with_next-3.ensures.bits
