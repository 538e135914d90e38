-- Whom one more bit wakes.
use Rattle.std.proofs.Common.{◌≡◌, ℕ, zero, suc, ◌<◌, refl, ap, ◌∙◌, bit_or, arith}
use Rattle.std.specs.Prelude.{max}
use Rattle.std.specs.Int.{bit_at}
use Rattle.std.proofs.lemmas.Nat.Bits.{bit_at_or, bit_at-lt}

-- a bit is at most 1
greatest : (bit : ℕ) → bit < 2 → max 1 bit ≡ 1
greatest zero less = refl
greatest (suc zero) less = refl
greatest (suc (suc n)) less = omega (arith, less)

-- a bit that is set stays set
pub stays_set : (a b i : ℕ) → bit_at a i ≡ 1 → bit_at (bit_or a b) i ≡ 1
stays_set a b i set = bit_at_or a b i ∙ ap (λ (n : ℕ). max n (bit_at b i)) set ∙ greatest (bit_at b i) (bit_at-lt b i)

-- and so it is with the 1 at the right
at_most_one : (bit : ℕ) → bit < 2 → max bit 1 ≡ 1
at_most_one zero less = refl
at_most_one (suc zero) less = refl
at_most_one (suc (suc n)) less = omega (arith, less)

-- a bit that is set in the second number is set in both together
pub is_set_by_second : (a b i : ℕ) → bit_at b i ≡ 1 → bit_at (bit_or a b) i ≡ 1
is_set_by_second a b i set = bit_at_or a b i ∙ ap (λ (n : ℕ). max (bit_at a i) n) set ∙ at_most_one (bit_at a i) (bit_at-lt a i)
