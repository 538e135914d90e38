-- Hexadecimal digits.
use Rattle.std.specs.Prelude.{ℕ, ◌+◌, ◌-◌, ◌&&◌, nat_le, nat_lt, Option, Some, None, if◌then◌else◌}
use Rattle.audit_words.specs.declared.digits.Letters.{Letters}
use Rattle.audit_words.specs.declared.digits.Letters.TheVariants.{Lower, Upper}

-- the letter for ten
abbrev pub letter_ten : Letters → ℕ
letter_ten Lower = 97
letter_ten Upper = 65

-- the digit of a number below 16
abbrev pub digit_in : Letters → ℕ → ℕ
digit_in letters n = if nat_lt n 10 then 48 + n else (letter_ten letters - 10) + n

-- the value of a digit
abbrev pub value_in : Letters → ℕ → Option ℕ
value_in letters c =
    if nat_le 48 c && nat_le c 57 then Some (c - 48)
    else if nat_le (letter_ten letters) c && nat_le c (letter_ten letters + 5) then Some (c - (letter_ten letters - 10))
    else None
