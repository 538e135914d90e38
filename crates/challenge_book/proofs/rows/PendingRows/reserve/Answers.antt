use Rattle.std.proofs.Common.{sym, ap, subst}
use Rattle.slab.specs.Slab.{get}
use Rattle.challenge_book.specs.Rows.{AreRows}
use Rattle.challenge_book.proofs.RowChanging.{as_before}
use Rattle.challenge_book.proofs.rows.PendingRows.reserve.Goals as goal

pub invariant_of-self : goal.invariant_of-self
invariant_of-self c = (as_before c.self.inside.rows c.reserve.new.self (λ k. ap (λ s. get s k) c.reserve.ensures.rest_kept) c.self.inside.order.entries c.self.invariant).0

pub invariant_of-self-in_err-reserve-2 : goal.invariant_of-self-in_err-reserve-2
invariant_of-self-in_err-reserve-2 c = subst (AreRows c.reserve.new.self) (sym c.reserve-2.ensures.entries) (as_before c.self.inside.rows c.reserve.new.self (λ k. ap (λ s. get s k) c.reserve.ensures.rest_kept) c.self.inside.order.entries c.self.invariant).0

pub invariant_of-self-2 : goal.invariant_of-self-2
invariant_of-self-2 c = subst (AreRows c.reserve.new.self) (sym c.reserve-2.ensures.entries) (as_before c.self.inside.rows c.reserve.new.self (λ k. ap (λ s. get s k) c.reserve.ensures.rest_kept) c.self.inside.order.entries c.self.invariant).0
