-- The readings of a clock in memory.
use Rattle.std.specs.Prelude.{◌^◌, ℕ, min}

-- A reading that a clock may give: at most 2^62.
abbrev pub capped : ℕ → ℕ
capped number = min number (2 ^ 62)
