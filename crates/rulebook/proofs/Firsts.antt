-- The first place at which a test passes.
use Rattle.std.proofs.Common.{◌≡◌, ℕ, suc, ◌+◌, ◌<◌, nat_lt, Bool, true, false, cond, not, List, [], ◌∷◌, ◌++◌, length, take, get_or, Option, Some, None, refl, sym, ap, ◌∙◌, arith, position, find, slice_get, option_map, option_and_then}
use Rattle.std.specs.List.{position_or_len}
use Rattle.std.proofs.lemmas.Bool.Decides.{nat_tests}
use Rattle.std.proofs.lemmas.List.{take_more, length-take-le}
use Rattle.authority_model.specs.Lists.{or_else, when}

below_next : (n m : ℕ) → nat_lt n m ≡ true → nat_lt (1 + n) (suc m) ≡ true
below_next n m e = grind (arith, nat_tests)

not_below_next : (n m : ℕ) → nat_lt n m ≡ false → nat_lt (1 + n) (suc m) ≡ false
not_below_next n m e = grind (arith, nat_tests)

some_below : (m : ℕ) → nat_lt 0 (suc m) ≡ true
some_below m = grind (arith, nat_tests)

next_by : (n m : ℕ) (b : Bool) → nat_lt n m ≡ b → cond (nat_lt (1 + n) (suc m)) (Some (1 + n)) None ≡ option_map suc (cond b (Some n) None)
next_by n m true e = let same : 1 + n ≡ suc n = omega arith in ap (λ b. cond b (Some (1 + n)) None) (below_next n m e) ∙ ap Some same
next_by n m false e = ap (λ b. cond b (Some (1 + n)) None) (not_below_next n m e)

cons_by : {A : Type 0} (test : A → Bool) (xs : List A) (b : Bool)
    → cond (nat_lt (cond (not b) (1 + position_or_len test xs) 0) (suc (length xs))) (Some (cond (not b) (1 + position_or_len test xs) 0)) None
    ≡ cond b (Some 0) (option_map suc (position test xs))
cons_by test xs true = ap (λ b. cond {A = Option ℕ} b (Some 0) None) (some_below (length xs))
cons_by test xs false = next_by (position_or_len test xs) (length xs) (nat_lt (position_or_len test xs) (length xs)) refl

-- the first place in a list by its first element
pub position-cons : {A : Type 0} (test : A → Bool) (x : A) (xs : List A) → position test (x ∷ xs) ≡ cond (test x) (Some 0) (option_map suc (position test xs))
position-cons test x xs = cons_by test xs (test x)

first_more : (b c : Bool) (o : Option ℕ) (n : ℕ) → cond b (Some 0) (option_map suc (or_else o (when c n))) ≡ or_else (cond b (Some 0) (option_map suc o)) (when c (suc n))
first_more true c o n = refl
first_more false c (Some k) n = refl
first_more false true None n = refl
first_more false false None n = refl

only_first : (b : Bool) → cond {A = Option ℕ} b (Some 0) None ≡ when b 0
only_first true = refl
only_first false = refl

-- the first place with one element more
position-more : {A : Type 0} (test : A → Bool) (xs : List A) (x : A) → position test (xs ++ x ∷ []) ≡ or_else (position test xs) (when (test x) (length xs))
position-more test [] x = position-cons test x [] ∙ only_first (test x)
position-more test (y ∷ xs) x =
    position-cons test y (xs ++ x ∷ [])
    ∙ ap (λ o. cond (test y) (Some 0) (option_map suc o)) (position-more test xs x)
    ∙ first_more (test y) (test x) (position test xs) (length xs)
    ∙ ap (λ o. or_else o (when (test x) (suc (length xs)))) (sym (position-cons test y xs))

-- the first place among the first `j`, where the `j`-th is at `i`
pub position-take : {A : Type 0} (test : A → Bool) (xs : List A) (i j p : ℕ) (x : A) → j ≡ i + 1 → i < length xs → x ≡ get_or xs i x → p ≡ i
    → or_else (position test (take i xs)) (when (test x) p) ≡ position test (take j xs)
position-take test xs i j p x next within is place =
    let len : p ≡ length (take i xs) = omega (arith, length-take-le i xs (omega arith)) in
    ap (λ n. or_else (position test (take i xs)) (when (test x) n)) len
    ∙ sym (position-more test (take i xs) x)
    ∙ ap (position test) (sym (ap (λ k. take k xs) next ∙ take_more xs i x within ∙ ap (λ y. take i xs ++ y ∷ []) (sym is)))

found_next : {A : Type 0} (b : Bool) (x : A) (xs : List A) (o : Option ℕ) (f : Option A) → f ≡ option_and_then (slice_get xs) o
    → cond b (Some x) f ≡ option_and_then (slice_get (x ∷ xs)) (cond b (Some 0) (option_map suc o))
found_next true x xs o f is = refl
found_next false x xs None f is = is
found_next false x xs (Some n) f is = is

-- the first element that passes stands at the first place
pub find-place : {A : Type 0} (test : A → Bool) (xs : List A) → find test xs ≡ option_and_then (slice_get xs) (position test xs)
find-place test [] = refl
find-place test (x ∷ xs) =
    found_next (test x) x xs (position test xs) (find test xs) (find-place test xs)
    ∙ ap (option_and_then (slice_get (x ∷ xs))) (sym (position-cons test x xs))
