-- A front that is too large stays too large.
use Rattle.std.proofs.Common.{◌≡◌, sym, length, get_or, ◌+◌, ◌*◌, ◌-◌, ◌<◌, ◌≤◌, ◌&&◌, nat_le, if◌then◌else◌, [], ◌∷◌, List, ℕ, Bool, true, false, refl, None, Option, arith, option_and_then}
use Rattle.std.proofs.lemmas.Bool.Decides.{nat_tests}
use Rattle.pk_types.specs.Decimals.{at_most, digits_after}

either : (b : Bool) (greatest : ℕ) (more : Option ℕ) → option_and_then (at_most greatest) more ≡ None → option_and_then (at_most greatest) (if b then more else None) ≡ None
either true greatest more e = e
either false greatest more e = refl

too_large : (greatest n : ℕ) (ds : List ℕ) → greatest < n → option_and_then (at_most greatest) (digits_after n ds) ≡ None
too_large greatest n [] lt = grind (arith, nat_tests)
too_large greatest n (d ∷ ds) lt =
    either (nat_le 48 d && nat_le d 57) greatest _ (too_large greatest (n * 10 + (d - 48)) ds (omega arith))

-- the first digit of the rest makes it too large
pub too_large_at : (greatest value : ℕ) (word rest : List ℕ) → digits_after 0 word ≡ digits_after value rest → 1 ≤ length rest
    → (nat_le 48 (get_or rest 0 0) && nat_le (get_or rest 0 0) 57) ≡ true → greatest < value * 10 + (get_or rest 0 0 - 48)
    → None ≡ option_and_then (at_most greatest) (digits_after 0 word)
too_large_at greatest value word [] same some digit lt = absurd (omega (arith, some))
too_large_at greatest value word (d ∷ ds) same some digit lt =
    rw (same, digit) (sym (too_large greatest (value * 10 + (d - 48)) ds lt))
