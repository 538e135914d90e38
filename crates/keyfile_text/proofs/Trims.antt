-- Trimming by the last byte.
use Rattle.std.proofs.Common.{◌≡◌, ℕ, ◌==◌, ◌&&◌, Bool, true, false, List, [], ◌∷◌, ◌++◌, length, ◌<◌, refl, ap, sym, ◌∙◌, arith, length-append, ◌||◌}
use Rattle.std.proofs.lemmas.Bool.{ne_eqb}
use Rattle.std.proofs.lemmas.Bool.Decides.{Decides-eqb}
use Rattle.std.specs.Prelude.{if◌then◌else◌}
use Rattle.pk_types.specs.Text.{is_blank}
use Rattle.keyfile_text.specs.Bytes.{is_empty, trim_front, trim_back}

pub trim_back-blank : (bytes before : List ℕ) (b : ℕ) → bytes ≡ before ++ b ∷ [] → is_blank b ≡ true → trim_back bytes ≡ trim_back before
trim_back-blank bytes before b e blank = ap trim_back e ∙ at before
  where
    at : (before : List ℕ) → trim_back (before ++ b ∷ []) ≡ trim_back before
    at [] = ap (λ t. if t && true then [] else b ∷ []) blank
    at (c ∷ before) = ap (λ r. if is_blank c && is_empty r then [] else c ∷ r) (at before)

is_empty-push : (before : List ℕ) (b : ℕ) → is_empty (before ++ b ∷ []) ≡ false
is_empty-push before b = ne_eqb (length (before ++ b ∷ [])) 0 (λ z. omega (arith, length-append before (b ∷ [])))

and_false : (t : Bool) → (t && false) ≡ false
and_false true = refl
and_false false = refl

pub trim_back-other : (bytes before : List ℕ) (b : ℕ) → bytes ≡ before ++ b ∷ [] → is_blank b ≡ false → trim_back bytes ≡ bytes
trim_back-other bytes before b e other = ap trim_back e ∙ at before ∙ sym e
  where
    at : (before : List ℕ) → trim_back (before ++ b ∷ []) ≡ before ++ b ∷ []
    at [] = ap (λ t. if t && true then [] else b ∷ []) other
    at (c ∷ before) =
        ap (λ r. if is_blank c && is_empty r then [] else c ∷ r) (at before)
        ∙ ap (λ t. if is_blank c && t then [] else c ∷ (before ++ b ∷ [])) (is_empty-push before b)
        ∙ ap (λ t. if t then [] else c ∷ (before ++ b ∷ [])) (and_false (is_blank c))

pub trim_front-blank : (bytes behind : List ℕ) (b : ℕ) → bytes ≡ b ∷ behind → is_blank b ≡ true → trim_front bytes ≡ trim_front behind
trim_front-blank bytes behind b e blank = ap trim_front e ∙ ap (λ t. if t then trim_front behind else b ∷ behind) blank

pub trim_front-other : (bytes behind : List ℕ) (b : ℕ) → bytes ≡ b ∷ behind → is_blank b ≡ false → trim_front bytes ≡ bytes
trim_front-other bytes behind b e other = ap trim_front e ∙ ap (λ t. if t then trim_front behind else b ∷ behind) other ∙ sym e

-- a blank is an ASCII byte
pub blank_low : (b : ℕ) → is_blank b ≡ true → b < 128
blank_low b e = of (b == 32) (b == 9) (b == 10) refl refl refl e
  where
    of : (x y z : Bool) → (b == 32) ≡ x → (b == 9) ≡ y → (b == 10) ≡ z → (x || y || z) ≡ true → b < 128
    of true y z p q r e = omega (arith, (Decides-eqb b 32).0 p)
    of false true z p q r e = omega (arith, (Decides-eqb b 9).0 q)
    of false false true p q r e = omega (arith, (Decides-eqb b 10).0 r)
    of false false false p q r e = absurd (cc)
