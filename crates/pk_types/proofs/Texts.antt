-- Which bytes are texts.
use Rattle.std.proofs.Common.{◌≡◌, ◌≢◌, ℕ, zero, suc, ◌+◌, ◌<◌, ◌≤◌, ◌==◌, nat_lt, not, cond, Bool, true, false, ◌&&◌, List, [], ◌∷◌, ◌++◌, length, take, get_or, Option, Some, None, position, refl, ap, ◌∙◌, arith}
use Rattle.std.specs.Prelude.{if◌then◌else◌}
use Rattle.std.specs.List.{list_all, prefix_len}
use Rattle.std.specs.Str.{IsUtf8}
use Rattle.std.proofs.lemmas.Bool.{ne_eqb}
use Rattle.std.proofs.lemmas.Bool.Decides.{nat_tests}
use Rattle.std.proofs.lemmas.List.{take_all}
use Rattle.std.proofs.lemmas.Str.{utf8_valid_len-IsUtf8, IsUtf8-from_ascii}
use Rattle.pk_types.specs.Text.{IsText, NoZero, text_bad, place_or_end, bad_byte_fault}
use Rattle.pk_types.specs.declared.text.TextFault.TheVariants as fault

pub NoZero-append : (a b : List ℕ) → NoZero a → NoZero b → NoZero (a ++ b)
NoZero-append [] b left right = right
NoZero-append (x ∷ a) b left right = (left.0, NoZero-append a b left.1 right)

all_pass : (bytes : List ℕ) → NoZero bytes → prefix_len (λ b. not (b == 0)) bytes ≡ length bytes
all_pass [] none = refl
all_pass (b ∷ bytes) none =
    ap (λ t. cond (not t) (1 + prefix_len (λ b. not (b == 0)) bytes) 0) (ne_eqb b 0 none.0) ∙ omega (arith, all_pass bytes none.1)

nowhere_zero : (bytes : List ℕ) → NoZero bytes → position (λ b. b == 0) bytes ≡ None
nowhere_zero bytes none = of (prefix_len (λ b. not (b == 0)) bytes) (all_pass bytes none)
  where
    of : (n : ℕ) → n ≡ length bytes → cond (nat_lt n (length bytes)) (Some n) None ≡ None
    of n e = grind (arith, nat_tests)

no_bad : (bytes : List ℕ) → IsUtf8 bytes → NoZero bytes → text_bad bytes ≡ None
no_bad bytes utf8 none =
    ap (λ n. place_or_end (position (λ b. b == 0) (take n bytes)) n (length bytes)) (utf8_valid_len-IsUtf8 bytes utf8)
    ∙ ap (λ r. place_or_end (position (λ b. b == 0) r) (length bytes) (length bytes)) (take_all (length bytes) bytes (omega arith))
    ∙ ap (λ o. place_or_end o (length bytes) (length bytes)) (nowhere_zero bytes none)
    ∙ same (length bytes)
  where
    same : (n : ℕ) → (if nat_lt n n then Some n else None) ≡ None
    same n = grind (arith, nat_tests)

-- UTF-8 without a byte 0 that is not too long is a text
pub text_of : (bytes : List ℕ) → IsUtf8 bytes → NoZero bytes → length bytes ≤ 65535 → IsText bytes
text_of bytes utf8 none fits = of (length bytes) fits (text_bad bytes) (no_bad bytes utf8 none)
  where
    of : (n : ℕ) → n ≤ 65535 → (o : Option ℕ) → o ≡ None → (if nat_lt 65535 n then Some (fault.TooLong n) else bad_byte_fault o) ≡ None
    of n fits None e = grind (arith, nat_tests)
    of n fits (Some at) e = absurd (cc)

-- a byte that a text may hold anywhere: ASCII, and not 0
abbrev pub is_plain : ℕ → Bool
is_plain b = nat_lt 0 b && nat_lt b 128

both : (a b : Bool) → (a && b) ≡ true → (a ≡ true) × (b ≡ true)
both true true e = (refl, refl)
both true false e = absurd (cc)
both false b e = absurd (cc)

above : (b : ℕ) → nat_lt 0 b ≡ true → b ≢ 0
above b e = λ z. absurd (grind (arith, nat_tests))

below : (b : ℕ) → nat_lt b 128 ≡ true → b < 128
below b e = grind (arith, nat_tests)

plain_byte : (b : ℕ) → is_plain b ≡ true → (b ≢ 0) × (b < 128)
plain_byte b e = let x = both (nat_lt 0 b) (nat_lt b 128) e in (above b x.0, below b x.1)

plain_no_zero : (bytes : List ℕ) → list_all is_plain bytes ≡ true → NoZero bytes
plain_no_zero [] e = tt
plain_no_zero (b ∷ bytes) e = let x = both (is_plain b) (list_all is_plain bytes) e in ((plain_byte b x.0).0, plain_no_zero bytes x.1)

plain_low : (bytes : List ℕ) → list_all is_plain bytes ≡ true → (i : ℕ) → get_or bytes i 0 < 128
plain_low [] e i = omega arith
plain_low (b ∷ bytes) e zero = (plain_byte b (both (is_plain b) (list_all is_plain bytes) e).0).1
plain_low (b ∷ bytes) e (suc i) = plain_low bytes (both (is_plain b) (list_all is_plain bytes) e).1 i

pub plain_utf8 : (bytes : List ℕ) → list_all is_plain bytes ≡ true → IsUtf8 bytes × NoZero bytes
plain_utf8 bytes all = (IsUtf8-from_ascii bytes (plain_low bytes all), plain_no_zero bytes all)

pub plain_text : (bytes : List ℕ) → list_all is_plain bytes ≡ true → length bytes ≤ 65535 → IsText bytes
plain_text bytes all fits = let x = plain_utf8 bytes all in text_of bytes x.0 x.1 fits
