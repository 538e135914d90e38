use Rattle.std.proofs.Common.{◌≡◌, ℕ, Some, nat_eq}
use Rattle.std.specs.Prelude.{◌⊎◌}
use Rattle.std.specs.Map.{lookup}
use Rattle.peer_book.specs.Places.{CanTake, KeepsPlaces}
use Rattle.peer_book.proofs.places.widen_all.Given as goal

abbrev pub invariant-loop-receiver : goal.invariant-loop-receiver
invariant-loop-receiver l = record {
  kept : KeepsPlaces l.initial.rows.entries l.rows.entries;
  made : (c n : ℕ) → lookup (nat_eq c) l.tally.entries ≡ Some n → (lookup (nat_eq c) l.receiver-iterator ≡ Some n) ⊎ CanTake l.rows.entries c n;
}
