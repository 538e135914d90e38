-- A text of pk_types is a text of a message.
use Rattle.std.proofs.Common.{◌≡◌, ℕ, zero, suc, ◌+◌, ◌<◌, ◌≤◌, List, [], ◌∷◌, length, take, Bool, true, false, not, cond, eqb, ltb, ◌||◌, Option, Some, None, refl, subst, arith}
use Rattle.std.proofs.lemmas.Bool.{ltb-false}
use Rattle.std.proofs.lemmas.List.{take_all}
use Rattle.std.specs.List.{list_any, position_or_len, position}
use Rattle.std.specs.Str.{is_utf8, chars}
use Rattle.std.specs.Char.{encode_utf8}
use Rattle.std.specs.Str.Lossy.{valid_len_up_to, utf8_valid_len}
use Rattle.pk_types.specs.Text.{IsText, text_bad, bad_byte_fault, place_or_end}
use Rattle.pk_types.specs.declared.text.TextFault.TheVariants as text_fault
use Rattle.dbus_values.specs.Basics.{is_text}

valid_le : (bs : List ℕ) (n : ℕ) → valid_len_up_to bs n ≤ n
valid_le bs zero = omega arith
valid_le bs (suc n) = go (is_utf8 (take (suc n) bs)) (valid_le bs n) where
  go : (b : Bool) → valid_len_up_to bs n ≤ n → cond b (suc n) (valid_len_up_to bs n) ≤ suc n
  go true le = omega arith
  go false le = omega arith

valid_up_to : (bs : List ℕ) (n : ℕ) → 0 < n → n ≤ valid_len_up_to bs n → is_utf8 (take n bs) ≡ true
valid_up_to bs zero pos le = absurd (omega arith)
valid_up_to bs (suc n) pos le = go (is_utf8 (take (suc n) bs)) refl le where
  go : (b : Bool) → is_utf8 (take (suc n) bs) ≡ b → suc n ≤ cond b (suc n) (valid_len_up_to bs n) → is_utf8 (take (suc n) bs) ≡ true
  go true e le = e
  go false e le = absurd (omega (arith, valid_le bs n))

no_zero : (xs : List ℕ) → length xs ≤ position_or_len (λ b. eqb b 0) xs → list_any (λ b. eqb b 0) xs ≡ false
no_zero [] le = refl
no_zero (x ∷ xs) le = go (eqb x 0) (no_zero xs) le where
  go : (b : Bool) → (length xs ≤ position_or_len (λ b. eqb b 0) xs → list_any (λ b. eqb b 0) xs ≡ false) → suc (length xs) ≤ cond (not b) (1 + position_or_len (λ b. eqb b 0) xs) 0 → (b || list_any (λ b. eqb b 0) xs) ≡ false
  go true rest le = absurd (omega arith)
  go false rest le = rest (omega arith)

no_place : (xs : List ℕ) → position (λ b. eqb b 0) xs ≡ None → list_any (λ b. eqb b 0) xs ≡ false
no_place xs e = go (ltb (position_or_len (λ b. eqb b 0) xs) (length xs)) refl e where
  go : (b : Bool) → ltb (position_or_len (λ b. eqb b 0) xs) (length xs) ≡ b → cond b (Some (position_or_len (λ b. eqb b 0) xs)) None ≡ None → list_any (λ b. eqb b 0) xs ≡ false
  go true lt h = absurd cc
  go false lt h = no_zero xs (ltb-false _ _ lt)

empty_text : is_text [] ≡ true
unfolding is_utf8 chars encode_utf8
empty_text = refl

whole_text : (t : List ℕ) → 0 < length t → length t ≤ utf8_valid_len t → position (λ b. eqb b 0) (take (utf8_valid_len t) t) ≡ None → is_text t ≡ true
unfolding utf8_valid_len
whole_text t pos le none =
    let utf8 : is_utf8 t ≡ true = subst (λ (x : List ℕ). is_utf8 x ≡ true) (take_all (length t) t (omega arith)) (valid_up_to t (length t) pos le) in
    let clean : list_any (λ b. eqb b 0) t ≡ false = subst (λ (x : List ℕ). list_any (λ b. eqb b 0) x ≡ false) (take_all (utf8_valid_len t) t le) (no_place (take (utf8_valid_len t) t) none) in
    rw (utf8, clean) refl

pub text_is : (t : List ℕ) → IsText t → is_text t ≡ true
text_is [] is = empty_text
text_is (x ∷ xs) is = sized (ltb 65535 (length t)) is where
  t : List ℕ
  t = x ∷ xs

  ended : (b : Bool) → ltb (utf8_valid_len t) (length t) ≡ b → position (λ b. eqb b 0) (take (utf8_valid_len t) t) ≡ None → bad_byte_fault (cond b (Some (utf8_valid_len t)) None) ≡ None → is_text t ≡ true
  ended true lt none h = absurd cc
  ended false lt none h = whole_text t (omega arith) (ltb-false _ _ lt) none

  placed : (o : Option ℕ) → position (λ b. eqb b 0) (take (utf8_valid_len t) t) ≡ o → bad_byte_fault (place_or_end o (utf8_valid_len t) (length t)) ≡ None → is_text t ≡ true
  placed (Some at) e h = absurd cc
  placed None e h = ended (ltb (utf8_valid_len t) (length t)) refl e h

  sized : (b : Bool) → cond b (Some (text_fault.TooLong (length t))) (bad_byte_fault (text_bad t)) ≡ None → is_text t ≡ true
  sized true h = absurd cc
  sized false h = placed (position (λ b. eqb b 0) (take (utf8_valid_len t) t)) refl h
