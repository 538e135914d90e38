-- What a walk knows of the arrays that it has met.
use Rattle.std.specs.Prelude.{ℕ, ◌<◌, List, length, slice_index_or, Option, Some, None}
use Rattle.std.specs.Borrow.{Bor}
use Rattle.dbus_values.specs.Trees.{IsItem}

-- the signature of an array's items, or nothing yet
abbrev pub IsKnown : Option (Bor (List ℕ)) → Type 0
IsKnown None = Unit {0}
IsKnown (Some item) = IsItem item.now

abbrev pub AllKnown : List (Option (Bor (List ℕ))) → Type 0
AllKnown slots = (i : ℕ) (d : Option (Bor (List ℕ))) → i < length slots → IsKnown (slice_index_or slots i d)
