-- The items so far were copied.
use Rattle.std.proofs.Common.{◌≡◌, take}
use Rattle.pk_types.proofs.list.List.try_copy.Given as goal

abbrev pub invariant-loop-item : goal.invariant-loop-item
invariant-loop-item g l = l.copies.items ≡ take l.item-index l.item-items
