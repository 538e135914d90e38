-- How the scalars of bytes follow from their first bytes.
use Rattle.std.proofs.Common.{◌≡◌, ◌≢◌, ◌<◌, ℕ, zero, suc, List, [], ◌∷◌, refl, ap, sym, ◌∙◌, arith, length, Option, None, Some, Bor, IfNone, IfSome}
use Rattle.std.specs.Str.{chars, chars_after, continuation_len, lead_bits}
use Rattle.std.proofs.lemmas.Bool.Decides.{nat_tests}

-- the scalars of bytes by the first of them
pub chars-cons : (bytes rest : List ℕ) (b n following bits : ℕ) → bytes ≡ b ∷ rest → following ≡ continuation_len b → bits ≡ lead_bits b → following ≡ n
    → chars bytes ≡ chars_after n bits rest
unfolding chars
chars-cons bytes rest b n following bits e f l is = ap chars e ∙ ap (λ k. chars_after k (lead_bits b) rest) (sym f ∙ is) ∙ ap (λ k. chars_after n k rest) (sym l)

pub chars_after-zero : (c : ℕ) (rest : List ℕ) → chars_after 0 c rest ≡ c ∷ chars rest
unfolding chars
chars_after-zero c [] = refl
chars_after-zero c (b ∷ rest) = refl

continuation_len-plain : (b : ℕ) → b < 128 → 0 ≡ continuation_len b
continuation_len-plain b below = grind (arith, nat_tests)

lead_bits-plain : (b : ℕ) → b < 128 → b ≡ lead_bits b
lead_bits-plain b below = grind (arith, nat_tests)

-- a byte below 128 is a scalar by itself
pub chars-plain : (bytes rest : List ℕ) (b : ℕ) → bytes ≡ b ∷ rest → b < 128 → chars bytes ≡ b ∷ chars rest
chars-plain bytes rest b e below = chars-cons bytes rest b 0 0 b e (continuation_len-plain b below) (lead_bits-plain b below) refl ∙ chars_after-zero b rest

pub chars_after-nil : (n c : ℕ) (rest : List ℕ) → n ≢ 0 → rest ≡ [] → chars_after n c rest ≡ []
chars_after-nil zero c rest some e = absurd (some refl)
chars_after-nil (suc n) c rest some e = ap (chars_after (suc n) c) e

pub continuation_len-three : (b n : ℕ) → n ≡ continuation_len b → n ≢ 0 → n ≢ 1 → n ≢ 2 → n ≡ 3
continuation_len-three b n is h0 h1 h2 = grind (arith, nat_tests)

pub nil_of_length : (bytes : List ℕ) → length bytes ≡ 0 → bytes ≡ []
nil_of_length [] e = refl
nil_of_length (b ∷ bytes) e = absurd (omega arith)

-- the last byte of a scalar
pub last_end : (r : Option (ℕ × Bor (List ℕ))) (bytes rest : List ℕ) (bits : ℕ) → chars bytes ≡ chars_after 1 bits rest → IfNone r (rest ≡ []) → IfNone r (chars bytes ≡ [])
last_end None bytes rest bits e end = e ∙ chars_after-nil 1 bits rest (λ x. omega arith) end
last_end (Some x) bytes rest bits e end = tt

pub last_scalar : (r : Option (ℕ × Bor (List ℕ))) (bytes rest : List ℕ) (bits : ℕ) → chars bytes ≡ chars_after 1 bits rest
    → IfSome r (λ next. (n : ℕ) → chars_after (suc n) bits rest ≡ chars_after n next.0 next.1.now) → IfSome r (λ next. chars bytes ≡ next.0 ∷ chars next.1.now)
last_scalar None bytes rest bits e step = tt
last_scalar (Some next) bytes rest bits e step = e ∙ step 0 ∙ chars_after-zero next.0 next.1.now
