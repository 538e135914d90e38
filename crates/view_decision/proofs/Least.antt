-- The least text of a list, by its bytes.
use Rattle.std.proofs.Common.{◌≡◌, ℕ, ◌==◌, Bool, true, false, ◌&&◌, ◌||◌, List, [], ◌∷◌, ◌++◌, Option, Some, None, refl, ap, arith, inl, inr, ◌⊎◌, subst}
use Rattle.std.specs.Prelude.{if◌then◌else◌, nat_lt}
use Rattle.std.specs.Option.{option_map_or}
use Rattle.std.proofs.lemmas.Bool.Decides.{nat_tests}
use Rattle.authority_model.specs.Lists.{Has}
use Rattle.authority_model.specs.Words.{Bytes, comes_before, least_text}
use Rattle.view_decision.specs.Implying.{lesser}

-- one byte of a comparison
asym-step : (a b : ℕ) (s t : Bool) → (s ≡ true → t ≡ false) → (nat_lt a b || ((a == b) && s)) ≡ true → (nat_lt b a || ((b == a) && t)) ≡ false
asym-step a b s t rest h = grind (arith, nat_tests)

same-step : (a b : ℕ) (s t : Bool) → (nat_lt a b || ((a == b) && s)) ≡ false → (nat_lt b a || ((b == a) && t)) ≡ false → (a ≡ b) × (s ≡ false) × (t ≡ false)
same-step a b s t h k = grind (arith, nat_tests)

back-step : (a b c : ℕ) (r s t : Bool) → (r ≡ false → s ≡ false → t ≡ false)
    → (nat_lt a b || ((a == b) && r)) ≡ false → (nat_lt b c || ((b == c) && s)) ≡ false → (nat_lt a c || ((a == c) && t)) ≡ false
back-step a b c r s t rest h k = grind (arith, nat_tests)

-- no text comes before another and after it
pub comes_before-asym : (xs ys : Bytes) → comes_before xs ys ≡ true → comes_before ys xs ≡ false
comes_before-asym [] [] h = refl
comes_before-asym [] (b ∷ bs) h = refl
comes_before-asym (a ∷ xs) [] h = absurd (cc)
comes_before-asym (a ∷ xs) (b ∷ ys) h = asym-step a b (comes_before xs ys) (comes_before ys xs) (comes_before-asym xs ys) h

-- two texts, neither of which comes before the other, are the same
pub comes_before-same : (xs ys : Bytes) → comes_before xs ys ≡ false → comes_before ys xs ≡ false → xs ≡ ys
comes_before-same [] [] h k = refl
comes_before-same [] (b ∷ bs) h k = absurd (cc)
comes_before-same (a ∷ xs) [] h k = absurd (cc)
comes_before-same (a ∷ xs) (b ∷ ys) h k =
    let step = same-step a b (comes_before xs ys) (comes_before ys xs) h k in
    let first : a ≡ b = step.0 in
    let rest : xs ≡ ys = comes_before-same xs ys step.1 step.2 in
    cc

-- what does not come before a text does not come before those that the text does not come before
pub comes_before-back : (xs ys zs : Bytes) → comes_before xs ys ≡ false → comes_before ys zs ≡ false → comes_before xs zs ≡ false
comes_before-back [] [] [] h k = refl
comes_before-back [] [] (c ∷ zs) h k = k
comes_before-back [] (b ∷ ys) zs h k = absurd (cc)
comes_before-back (a ∷ xs) [] [] h k = refl
comes_before-back (a ∷ xs) [] (c ∷ zs) h k = absurd (cc)
comes_before-back (a ∷ xs) (b ∷ ys) [] h k = refl
comes_before-back (a ∷ xs) (b ∷ ys) (c ∷ zs) h k = back-step a b c (comes_before xs ys) (comes_before ys zs) (comes_before xs zs) (comes_before-back xs ys zs) h k

-- nothing comes before itself
pub comes_before-self : (xs : Bytes) → comes_before xs xs ≡ false
comes_before-self xs = by (comes_before xs xs) refl
  where
    by : (t : Bool) → comes_before xs xs ≡ t → comes_before xs xs ≡ false
    by true is = comes_before-asym xs xs is
    by false is = is

-- The least of the texts of which a fact holds: it holds of none, or of this one, and of none that comes before it.
abbrev pub IsLeast : (Bytes → Type 0) → Option Bytes → Type 0
IsLeast P None = (b : Bytes) → P b → ⊥
IsLeast P (Some m) = P m × ((b : Bytes) → P b → comes_before b m ≡ false)

-- there is at most one
pub IsLeast-one : (P : Bytes → Type 0) (o p : Option Bytes) → IsLeast P o → IsLeast P p → o ≡ p
IsLeast-one P None None h k = refl
IsLeast-one P None (Some n) h k = absurd (h n k.0)
IsLeast-one P (Some m) None h k = absurd (k m h.0)
IsLeast-one P (Some m) (Some n) h k = ap Some (comes_before-same m n (k.1 m h.0) (h.1 n k.0))

-- the least for a fact that holds of the same texts
pub IsLeast-alike : (P Q : Bytes → Type 0) → ((b : Bytes) → P b → Q b) → ((b : Bytes) → Q b → P b) → (o : Option Bytes) → IsLeast P o → IsLeast Q o
IsLeast-alike P Q to back None h = λ b k. h b (back b k)
IsLeast-alike P Q to back (Some m) h = (to m h.0, λ b k. h.1 b (back b k))

-- the lesser of a text and the least
pub IsLeast-more : (P : Bytes → Type 0) (x : Bytes) (o : Option Bytes) → IsLeast P o → IsLeast (λ b. (x ≡ b) ⊎ P b) (Some (option_map_or (λ m. if comes_before m x then m else x) o x))
IsLeast-more P x None h = (inl refl, λ b. of b)
  where
    of : (b : Bytes) → (x ≡ b) ⊎ P b → comes_before b x ≡ false
    of b (inl same) = subst (λ b. comes_before b x ≡ false) same (comes_before-self x)
    of b (inr k) = absurd (h b k)
IsLeast-more P x (Some m) h = by (comes_before m x) refl
  where
    older : (b : Bytes) → comes_before m x ≡ true → (x ≡ b) ⊎ P b → comes_before b m ≡ false
    older b is (inl same) = subst (λ b. comes_before b m ≡ false) same (comes_before-asym m x is)
    older b is (inr k) = h.1 b k

    newer : (b : Bytes) → comes_before m x ≡ false → (x ≡ b) ⊎ P b → comes_before b x ≡ false
    newer b is (inl same) = subst (λ b. comes_before b x ≡ false) same (comes_before-self x)
    newer b is (inr k) = comes_before-back b m x (h.1 b k) is

    by : (t : Bool) → comes_before m x ≡ t → IsLeast (λ b. (x ≡ b) ⊎ P b) (Some (if t then m else x))
    by true is = (inr h.0, λ b. older b is)
    by false is = (inl refl, λ b. newer b is)

-- the least text of a list is its least
pub least_text-IsLeast : (xs : List Bytes) → IsLeast (Has xs) (least_text xs)
least_text-IsLeast [] = λ b h. h
least_text-IsLeast (x ∷ xs) = IsLeast-more (Has xs) x (least_text xs) (least_text-IsLeast xs)

-- lists of the same texts have one least
pub least_text-alike : (xs ys : List Bytes) → ((b : Bytes) → Has xs b → Has ys b) → ((b : Bytes) → Has ys b → Has xs b) → least_text xs ≡ least_text ys
least_text-alike xs ys to back = IsLeast-one (Has ys) (least_text xs) (least_text ys) (IsLeast-alike (Has xs) (Has ys) to back (least_text xs) (least_text-IsLeast xs)) (least_text-IsLeast ys)

-- the lesser of the least and a text after the others
pub IsLeast-later : (P : Bytes → Type 0) (x : Bytes) (o : Option Bytes) → IsLeast P o → IsLeast (λ b. (x ≡ b) ⊎ P b) (Some (lesser x o))
IsLeast-later P x None h = IsLeast-more P x None h
IsLeast-later P x (Some m) h = by (comes_before x m) refl
  where
    newer : (b : Bytes) → comes_before x m ≡ true → (x ≡ b) ⊎ P b → comes_before b x ≡ false
    newer b is (inl same) = subst (λ b. comes_before b x ≡ false) same (comes_before-self x)
    newer b is (inr k) = comes_before-back b m x (h.1 b k) (comes_before-asym x m is)

    older : (b : Bytes) → comes_before x m ≡ false → (x ≡ b) ⊎ P b → comes_before b m ≡ false
    older b is (inl same) = subst (λ b. comes_before b m ≡ false) same is
    older b is (inr k) = h.1 b k

    by : (t : Bool) → comes_before x m ≡ t → IsLeast (λ b. (x ≡ b) ⊎ P b) (Some (if t then x else m))
    by true is = (inl refl, λ b. newer b is)
    by false is = (inr h.0, λ b. older b is)

-- the elements of a list and one after it
has_push : (xs : List Bytes) (x b : Bytes) → Has (xs ++ x ∷ []) b → (x ≡ b) ⊎ Has xs b
has_push [] x b (inl same) = inl same
has_push [] x b (inr none) = absurd none
has_push (y ∷ ys) x b (inl same) = inr (inl same)
has_push (y ∷ ys) x b (inr h) = of (has_push ys x b h)
  where
    of : (x ≡ b) ⊎ Has ys b → (x ≡ b) ⊎ Has (y ∷ ys) b
    of (inl same) = inl same
    of (inr h) = inr (inr h)

push_has : (xs : List Bytes) (x b : Bytes) → (x ≡ b) ⊎ Has xs b → Has (xs ++ x ∷ []) b
push_has [] x b (inl same) = inl same
push_has [] x b (inr none) = absurd none
push_has (y ∷ ys) x b (inl same) = inr (push_has ys x b (inl same))
push_has (y ∷ ys) x b (inr (inl same)) = inl same
push_has (y ∷ ys) x b (inr (inr h)) = inr (push_has ys x b (inr h))

-- the least text with one more at the end
pub least_text-push : (xs : List Bytes) (x : Bytes) → least_text (xs ++ x ∷ []) ≡ Some (lesser x (least_text xs))
least_text-push xs x =
    let new : Option Bytes = Some (lesser x (least_text xs)) in
    IsLeast-one (Has (xs ++ x ∷ [])) (least_text (xs ++ x ∷ [])) new (least_text-IsLeast (xs ++ x ∷ []))
    (IsLeast-alike (λ b. (x ≡ b) ⊎ Has xs b) (Has (xs ++ x ∷ [])) (push_has xs x) (has_push xs x) new (IsLeast-later (Has xs) x (least_text xs) (least_text-IsLeast xs)))
