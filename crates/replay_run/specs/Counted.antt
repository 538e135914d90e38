-- How many outputs each connection was sent.
use Rattle.std.specs.Prelude.{ℕ, List, unwrap_or}
use Rattle.std.specs.Map.{lookup}
use Rattle.std.specs.BTreeMap.{is_at}
use Rattle.std.specs.Ordering.{nat_cmp}

-- the count of each connection, which is 0 where it has none
abbrev pub counted : List (ℕ × ℕ) → ℕ → ℕ
counted counts = λ c. unwrap_or (lookup (is_at (nat_cmp c)) counts) 0
