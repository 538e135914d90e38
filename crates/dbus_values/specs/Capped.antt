-- Lengths as far as 64 bits hold them.
use Rattle.std.specs.Prelude.{ℕ, ◌-◌, ◌^◌, min}

-- the number, or the greatest of 64 bits where it is greater
abbrev pub capped : ℕ → ℕ
capped n = min n (2 ^ 64 - 1)
