-- A table by number.
use Rattle.std.specs.Prelude.{◌≡◌, ℕ, ◌<◌, List, length, slice_index_or}

-- A table has so many rows, and the fact holds of each number below that and its row.
pub record IsTable {R : Type 0} (size : ℕ) (P : ℕ → R → Type 0) (rows : List R) : Type 0 where
  pub sized : length rows ≡ size
  pub each : (c : ℕ) (d : R) → c < length rows → P c (slice_index_or rows c d)
