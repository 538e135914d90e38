-- How many were counted.
use Rattle.std.specs.Prelude.{ℕ, ◌+◌}
use Rattle.memory_outside.specs.declared.tally.Tally.{Tally, Tally', Held-Tally-less, None', Some'}

-- The count of a tally: one more than that of the tally before it.
abbrev mutual
  pub count_in : Tally → ℕ
  count_in (Tally' less) = count_before less

  pub count_before : Held-Tally-less → ℕ
  count_before None' = 0
  count_before (Some' p tally) = count_in tally + 1
