-- Numbers in decimal digits, without a sign and without a zero in front.
use Rattle.std.specs.Prelude.{ℕ, ◌==◌, Bool, true, false, not, ◌&&◌, if◌then◌else◌, List, [], ◌∷◌, Option, Some, None, nat_le, ◌+◌, ◌-◌, ◌*◌, option_and_then}
use Rattle.pk_types.specs.declared.decimals.TheConstants.{MAX_NUMBER}

-- whether nothing stands there
abbrev pub is_empty : List ℕ → Bool
is_empty [] = true
is_empty (b ∷ bs) = false

-- the number of some digits that stand behind those of a number
abbrev pub digits_after : ℕ → List ℕ → Option ℕ
digits_after n [] = Some n
digits_after n (b ∷ bs) = if nat_le 48 b && nat_le b 57 then digits_after (n * 10 + (b - 48)) bs else None

-- the number that a word of digits names; a zero in front of other digits names none
abbrev pub decimal_of : List ℕ → Option ℕ
decimal_of [] = None
decimal_of (b ∷ bs) = if (b == 48) && not (is_empty bs) then None else digits_after 0 (b ∷ bs)

-- the number, where it is at most the greatest
abbrev pub at_most : ℕ → ℕ → Option ℕ
at_most greatest n = if nat_le n greatest then Some n else None

-- the number of a word of digits, where it is at most the greatest
abbrev pub decimal_up_to : ℕ → List ℕ → Option ℕ
decimal_up_to greatest word = option_and_then (at_most greatest) (decimal_of word)

-- the number of 32 bits that a word of digits names
abbrev pub number_of : List ℕ → Option ℕ
number_of word = decimal_up_to MAX_NUMBER word
