-- Bytes that may stand in a text, and their parts.
use Rattle.std.proofs.Common.{◌≡◌, ◌≢◌, ℕ, zero, suc, ◌+◌, ◌<◌, ◌≤◌, ◌==◌, nat_lt, Bool, true, false, not, cond, List, [], ◌∷◌, ◌++◌, length, take, drop, get_or, Option, Some, None, position, refl, ap, sym, ◌∙◌, subst, arith, append_assoc, length-append}
use Rattle.std.specs.Prelude.{if◌then◌else◌}
use Rattle.std.specs.List.{prefix_len}
use Rattle.std.specs.Str.{IsUtf8, is_utf8}
use Rattle.std.specs.Str.Lossy.{utf8_valid_len, valid_len_up_to}
use Rattle.std.proofs.lemmas.Bool.{ne_eqb}
use Rattle.std.proofs.lemmas.Bool.Decides.{nat_tests, Decides-eqb}
use Rattle.std.proofs.lemmas.List.{take_at, drop_at, get_or_at, take_all}
use Rattle.std.proofs.lemmas.Str.{IsUtf8-nil, IsUtf8-append, IsUtf8-take, IsUtf8-drop, IsUtf8-from_is_utf8, IsCharBoundary-before_ascii, IsCharBoundary-after_ascii, utf8_valid_len-IsUtf8, IsUtf8-from_ascii}
use Rattle.pk_types.specs.Text.{IsText, NoZero, text_bad, place_or_end, bad_byte_fault}
use Rattle.pk_types.specs.declared.text.TextFault.TheVariants as fault
use Rattle.pk_types.proofs.Texts.{NoZero-append, text_of}
use Rattle.keyfile_text.specs.Bytes.{IsClean}

NoZero-front : (a b : List ℕ) → NoZero (a ++ b) → NoZero a
NoZero-front [] b none = tt
NoZero-front (x ∷ a) b none = (none.0, NoZero-front a b none.1)

NoZero-end : (a b : List ℕ) → NoZero (a ++ b) → NoZero b
NoZero-end [] b none = none
NoZero-end (x ∷ a) b none = NoZero-end a b none.1

pub clean-nil : IsClean []
clean-nil = record { utf8 = IsUtf8-nil; no_zero = tt }

pub clean-append : (a b : List ℕ) → IsClean a → IsClean b → IsClean (a ++ b)
clean-append a b left right = record { utf8 = IsUtf8-append a b left.utf8 right.utf8; no_zero = NoZero-append a b left.no_zero right.no_zero }

-- a cut at an ASCII byte leaves two texts
pub clean-cut : (bytes a b : List ℕ) (x : ℕ) → bytes ≡ a ++ x ∷ b → x < 128 → IsClean bytes → IsClean a × IsClean b
clean-cut bytes a b x e ascii clean =
    let whole : IsClean (a ++ x ∷ b) = subst IsClean e clean in
    let here : get_or (a ++ x ∷ b) (length a) 0 ≡ x = get_or_at a x b 0 (length a) refl in
    let within : length a < length (a ++ x ∷ b) = omega (arith, length-append a (x ∷ b)) in
    let low : get_or (a ++ x ∷ b) (length a) 0 < 128 = omega (arith, here) in
    let before : IsUtf8 (take (length a) (a ++ x ∷ b)) = IsUtf8-take (a ++ x ∷ b) (length a) whole.utf8 (IsCharBoundary-before_ascii (a ++ x ∷ b) (length a) within low) in
    let behind : IsUtf8 (drop (length a + 1) (a ++ x ∷ b)) = IsUtf8-drop (a ++ x ∷ b) (length a + 1) whole.utf8 (IsCharBoundary-after_ascii (a ++ x ∷ b) (length a) whole.utf8 within low) in
    let a_is : take (length a) (a ++ x ∷ b) ≡ a = take_at a (x ∷ b) (length a) refl in
    let b_is : drop (length a + 1) (a ++ x ∷ b) ≡ b = ap (drop (length a + 1)) (sym (append_assoc a (x ∷ []) b)) ∙ drop_at (a ++ x ∷ []) b (length a + 1) (length-append a (x ∷ [])) in (
      record { utf8 = subst IsUtf8 a_is before; no_zero = NoZero-front a (x ∷ b) whole.no_zero },
      record { utf8 = subst IsUtf8 b_is behind; no_zero = (NoZero-end a (x ∷ b) whole.no_zero).1 },
    )

pub clean-byte : (x : ℕ) → x < 128 → x ≢ 0 → IsClean (x ∷ [])
clean-byte x ascii some = record { utf8 = IsUtf8-from_ascii (x ∷ []) low; no_zero = (some, tt) }
  where
    low : (i : ℕ) → get_or (x ∷ []) i 0 < 128
    low zero = ascii
    low (suc i) = omega arith

-- all bytes pass the test, or one fails it
no_zero_of : (b : ℕ) (bytes : List ℕ) (t : Bool) → (b == 0) ≡ t → suc (length bytes) ≤ cond (not t) (1 + prefix_len (λ b. not (b == 0)) bytes) 0
    → (length bytes ≤ prefix_len (λ b. not (b == 0)) bytes → NoZero bytes) → NoZero (b ∷ bytes)
no_zero_of b bytes true is all more = absurd (omega arith)
no_zero_of b bytes false is all more = (λ z. let t : (b == 0) ≡ true = (Decides-eqb b 0).1 z in absurd (cc (is, t)), more (omega arith))

no_zero : (bytes : List ℕ) → length bytes ≤ prefix_len (λ b. not (b == 0)) bytes → NoZero bytes
no_zero [] all = tt
no_zero (b ∷ bytes) all = no_zero_of b bytes (b == 0) refl all (no_zero bytes)

zero_nowhere : (bytes : List ℕ) → position (λ b. b == 0) bytes ≡ None → NoZero bytes
zero_nowhere bytes e = no_zero bytes (of (prefix_len (λ b. not (b == 0)) bytes) (nat_lt (prefix_len (λ b. not (b == 0)) bytes) (length bytes)) refl e)
  where
    of : (n : ℕ) (t : Bool) → nat_lt n (length bytes) ≡ t → cond t (Some n) None ≡ None → length bytes ≤ n
    of n true is e = absurd (cc)
    of n false is e = grind (arith, nat_tests)

valid_le : (bytes : List ℕ) (n : ℕ) → valid_len_up_to bytes n ≤ n
valid_le bytes zero = omega arith
valid_le bytes (suc n) = of (is_utf8 (take (suc n) bytes)) (valid_le bytes n)
  where
    of : (t : Bool) → valid_len_up_to bytes n ≤ n → (if t then suc n else valid_len_up_to bytes n) ≤ suc n
    of true le = omega arith
    of false le = omega arith

all_valid : (bytes : List ℕ) (n : ℕ) → n ≡ length bytes → n ≤ valid_len_up_to bytes n → IsUtf8 bytes
all_valid [] zero is all = IsUtf8-nil
all_valid (b ∷ bytes) zero is all = absurd (omega arith)
all_valid bytes (suc n) is all = of (is_utf8 (take (suc n) bytes)) refl all
  where
    of : (t : Bool) → is_utf8 (take (suc n) bytes) ≡ t → suc n ≤ (if t then suc n else valid_len_up_to bytes n) → IsUtf8 bytes
    of true e all = subst IsUtf8 (take_all (suc n) bytes (omega arith)) (IsUtf8-from_is_utf8 (take (suc n) bytes) e)
    of false e all = absurd (omega (arith, valid_le bytes n))

utf8_of_valid : (bytes : List ℕ) → length bytes ≤ utf8_valid_len bytes → IsUtf8 bytes
unfolding utf8_valid_len
utf8_of_valid bytes all = all_valid bytes (length bytes) refl all

-- neither a zero before the end of what is valid, nor an end of that
bad_none : (o : Option ℕ) (valid end : ℕ) → place_or_end o valid end ≡ None → (o ≡ None) × (end ≤ valid)
bad_none None valid end e = (refl, of (nat_lt valid end) refl e)
  where
    of : (t : Bool) → nat_lt valid end ≡ t → (if t then Some valid else None) ≡ None → end ≤ valid
    of true is e = absurd (cc)
    of false is e = grind (arith, nat_tests)
bad_none (Some at) valid end e = absurd (cc)

-- bytes without a bad one may stand in a text
pub clean_of_bad : (bytes : List ℕ) → text_bad bytes ≡ None → IsClean bytes
clean_of_bad bytes e =
    let both = bad_none (position (λ b. b == 0) (take (utf8_valid_len bytes) bytes)) (utf8_valid_len bytes) (length bytes) e in
    record { utf8 = utf8_of_valid bytes both.1; no_zero = subst NoZero (take_all (utf8_valid_len bytes) bytes both.1) (zero_nowhere (take (utf8_valid_len bytes) bytes) both.0) }

-- and those that may, and are not too many, are a text
pub text_of_clean : (bytes : List ℕ) → IsClean bytes → length bytes ≤ 65535 → IsText bytes
text_of_clean bytes clean fits = text_of bytes clean.utf8 clean.no_zero fits

pub text_is : (bytes : List ℕ) → IsText bytes → IsClean bytes × (length bytes ≤ 65535)
text_is bytes e = let both = of (length bytes) (nat_lt 65535 (length bytes)) refl (text_bad bytes) refl e in (clean_of_bad bytes both.0, both.1)
  where
    of : (n : ℕ) (t : Bool) → nat_lt 65535 n ≡ t → (o : Option ℕ) → text_bad bytes ≡ o → (if t then Some (fault.TooLong n) else bad_byte_fault o) ≡ None → (text_bad bytes ≡ None) × (n ≤ 65535)
    of n true is o bad e = absurd (cc)
    of n false is None bad e = (bad, grind (arith, nat_tests))
    of n false is (Some at) bad e = absurd (cc)

pub text_unless_long : (bytes : List ℕ) → IsClean bytes → false ≡ nat_lt 65535 (length bytes) → IsText bytes
text_unless_long bytes clean e = text_of_clean bytes clean (of (length bytes) e)
  where
    of : (n : ℕ) → false ≡ nat_lt 65535 n → n ≤ 65535
    of n e = grind (arith, nat_tests)
