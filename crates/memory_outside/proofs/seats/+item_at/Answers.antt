use Rattle.std.proofs.Common.{◌≤◌, ◌∙◌, sym, ap, ℕ, ◌+◌, arith}
use Rattle.memory_outside.proofs.Chains.{found_before, found_last, counted_last}
use Rattle.memory_outside.proofs.seats.+item_at.Goals as goal

pub returns-in-Ok-clause-item : goal.returns-in-Ok-clause-item
returns-in-Ok-clause-item g t c = found_before _ _ _ _ _ (record { is = c.in-Some.is; copied = c.deref.ensures }) c.in-Ok.ensures.item

pub returns-in-Some-item-clause-item : goal.returns-in-Some-item-clause-item
returns-in-Some-item-clause-item g t c =
    found_last _ _ c.deref.result.now _ _ (record { is = c.in-Some.is; copied = c.deref.ensures }) (c.in-Err.ensures.fewer.0 ∙ c.if-count-place.true)
    (rw (c.deref.ensures ∙ sym c.deref-2.ensures) c.in-Some-item.is)

pub returns-in-Some-2-clause-fewer : goal.returns-in-Some-2-clause-fewer
returns-in-Some-2-clause-fewer g t c = (
  counted_last _ _ c.deref.result.now c.in-Some-2.field-0 (record { is = c.in-Some.is; copied = c.deref.ensures }) (rw (c.deref.ensures ∙ sym c.deref-2.ensures) c.in-Some-2.is)
      ∙ ap (λ (n : ℕ). n + 1) c.in-Err.ensures.fewer.0,
  (let most : c.in-Err.count ≤ c.args.place = c.in-Err.ensures.fewer.1 in omega arith),
)
