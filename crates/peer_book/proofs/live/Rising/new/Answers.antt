use Rattle.std.proofs.Common.{sym, subst, List, ℕ}
use Rattle.std.specs.List.Sorted.{IsStrictlySortedBy}
use Rattle.std.specs.Ordering.{nat_cmp}
use Rattle.peer_book.proofs.Rising.{sorted_none}
use Rattle.peer_book.proofs.live.Rising.new.Goals as goal

pub invariant_of-result : goal.invariant_of-result
invariant_of-result c = subst (λ (xs : List ℕ). IsStrictlySortedBy nat_cmp xs) (sym c.new.ensures.items) sorted_none
