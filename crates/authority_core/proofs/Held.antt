-- The place that is held at the end of a list.
use Rattle.std.proofs.Common.{◌≡◌, ℕ, ◌+◌, ◌-◌, List, [], ◌∷◌, ◌++◌, refl, ap, ◌∙◌, length, take, arith}
use Rattle.std.specs.Prelude.{slice_set}
use Rattle.std.proofs.lemmas.List.{length-append}

set_at : {A : Type 0} (xs : List A) (x y : A) → slice_set (xs ++ x ∷ []) (length xs) y ≡ xs ++ y ∷ []
set_at [] x y = refl
set_at (z ∷ xs) x y = ap (λ r. z ∷ r) (set_at xs x y)

take_at : {A : Type 0} (xs : List A) (x : A) → take (length xs) (xs ++ x ∷ []) ≡ xs
take_at [] x = refl
take_at (z ∷ xs) x = ap (λ r. z ∷ r) (take_at xs x)

before_last : {A : Type 0} (xs : List A) (x : A) → length (xs ++ x ∷ []) - 1 ≡ length xs
before_last xs x = let size = length-append xs (x ∷ []) in omega (arith, size)

-- another element in the last place
pub set_last : {A : Type 0} (before old new : List A) (x y : A) (k : ℕ) → old ≡ before ++ x ∷ [] → k ≡ length old - 1 → new ≡ slice_set old k y → new ≡ before ++ y ∷ []
set_last before old new x y k was place set =
    set ∙ ap (λ n. slice_set old n y) (place ∙ ap (λ l. length l - 1) was ∙ before_last before x) ∙ ap (λ l. slice_set l (length before) y) was ∙ set_at before x y

-- the elements before the last place
pub drop_last : {A : Type 0} (before old new : List A) (x : A) (k : ℕ) → old ≡ before ++ x ∷ [] → k ≡ length old - 1 → new ≡ take k old → new ≡ before
drop_last before old new x k was place cut =
    cut ∙ ap (λ n. take n old) (place ∙ ap (λ l. length l - 1) was ∙ before_last before x) ∙ ap (take (length before)) was ∙ take_at before x

-- there is a place to give up
pub some_place : {A : Type 0} (before old : List A) (x : A) → old ≡ before ++ x ∷ [] → length old ≡ length before + 1
some_place before old x was = ap length was ∙ length-append before (x ∷ [])
