-- A list with room for more.
use Rattle.std.specs.Prelude.{ℕ, List}

-- the items, and how many more can come without memory
pub record Roomy (T : Type 0) : Type 0 where
  pub items : List T
  pub room : ℕ
