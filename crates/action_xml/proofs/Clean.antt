-- Bytes that are UTF-8 without byte 0 have no bad byte.
use Rattle.std.proofs.Common.{◌≡◌, ℕ, ◌+◌, nat_lt, ◌==◌, not, cond, List, [], ◌∷◌, length, take, Some, None, position, refl, ap, ◌∙◌, arith}
use Rattle.std.specs.Prelude.{if◌then◌else◌}
use Rattle.std.specs.List.{prefix_len}
use Rattle.std.proofs.lemmas.Bool.{ne_eqb}
use Rattle.std.proofs.lemmas.Bool.Decides.{nat_tests}
use Rattle.std.proofs.lemmas.List.{take_all}
use Rattle.std.proofs.lemmas.Str.{utf8_valid_len-IsUtf8}
use Rattle.pk_types.specs.Text.{NoZero, text_bad, place_or_end}
use Rattle.keyfile_text.specs.Bytes.{IsClean}

all_pass : (bytes : List ℕ) → NoZero bytes → prefix_len (λ b. not (b == 0)) bytes ≡ length bytes
all_pass [] none = refl
all_pass (b ∷ bytes) none =
    ap (λ t. cond (not t) (1 + prefix_len (λ b. not (b == 0)) bytes) 0) (ne_eqb b 0 none.0) ∙ omega (arith, all_pass bytes none.1)

nowhere_zero : (bytes : List ℕ) → NoZero bytes → position (λ b. b == 0) bytes ≡ None
nowhere_zero bytes none = of (prefix_len (λ b. not (b == 0)) bytes) (all_pass bytes none)
  where
    of : (n : ℕ) → n ≡ length bytes → cond (nat_lt n (length bytes)) (Some n) None ≡ None
    of n e = grind (arith, nat_tests)

pub no_bad : (bytes : List ℕ) → IsClean bytes → text_bad bytes ≡ None
no_bad bytes clean =
    ap (λ n. place_or_end (position (λ b. b == 0) (take n bytes)) n (length bytes)) (utf8_valid_len-IsUtf8 bytes clean.utf8)
    ∙ ap (λ r. place_or_end (position (λ b. b == 0) r) (length bytes) (length bytes)) (take_all (length bytes) bytes (omega arith))
    ∙ ap (λ o. place_or_end o (length bytes) (length bytes)) (nowhere_zero bytes clean.no_zero)
    ∙ same (length bytes)
  where
    same : (n : ℕ) → (if nat_lt n n then Some n else None) ≡ None
    same n = grind (arith, nat_tests)
