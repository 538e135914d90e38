-- Lists made of what each element gives, as a walk by places goes one element further.
use Rattle.std.proofs.Common.{◌≡◌, ◌+◌, ◌++◌, ℕ, zero, suc, Bool, true, false, ◌||◌, List, [], ◌∷◌, refl, sym, ap, ◌∙◌, take, flat_map, append_assoc, slice_get, arith, filter}
use Rattle.std.specs.Prelude.{if◌then◌else◌, option_to_list}
use Rattle.std.specs.Option.{option_map_or}
use Rattle.std.specs.List.{list_any}

-- what one more element adds
further : {A B : Type 0} (f : A → List B) (xs : List A) (i : ℕ) → flat_map f (take i xs) ++ flat_map f (option_to_list (slice_get xs i)) ≡ flat_map f (take (suc i) xs)
further f [] zero = refl
further f [] (suc i) = refl
further f (x ∷ xs) zero = refl
further f (x ∷ xs) (suc i) = append_assoc (f x) (flat_map f (take i xs)) (flat_map f (option_to_list (slice_get xs i))) ∙ ap (λ ys. f x ++ ys) (further f xs i)

-- the same after what was there before
pub one_more : {A B : Type 0} (f : A → List B) (xs : List A) (i : ℕ) (before now after : List B) → now ≡ before ++ flat_map f (take i xs) → after ≡ now ++ flat_map f (option_to_list (slice_get xs i)) → after ≡ before ++ flat_map f (take (i + 1) xs)
one_more f xs i before now after so_far told =
    let next : i + 1 ≡ suc i = omega arith in
    told ∙ ap (λ ys. ys ++ flat_map f (option_to_list (slice_get xs i))) so_far ∙ append_assoc before (flat_map f (take i xs)) (flat_map f (option_to_list (slice_get xs i))) ∙ ap (λ ys. before ++ ys) (further f xs i ∙ ap (λ n. flat_map f (take n xs)) (sym next))

-- nothing is given by an element that is skipped
pub filtered : {A B : Type 0} (p : A → Bool) (f : A → List B) (xs : List A) → flat_map (λ x. if p x then f x else []) xs ≡ flat_map f (filter p xs)
filtered p f [] = refl
filtered {A} {B} p f (x ∷ xs) = go (p x) (filtered p f xs)
  where
    go : (b : Bool) → flat_map (λ x. if p x then f x else []) xs ≡ flat_map f (filter p xs) → (if b then f x else []) ++ flat_map (λ x. if p x then f x else []) xs ≡ flat_map f (if b then (x ∷ filter p xs) else filter p xs)
    go true ih = ap (λ ys. f x ++ ys) ih
    go false ih = ih

-- the elements that pass
pub passing : {A : Type 0} (p : A → Bool) (xs : List A) → flat_map (λ x. if p x then x ∷ [] else []) xs ≡ filter p xs
passing p [] = refl
passing {A} p (x ∷ xs) = go (p x) (passing p xs)
  where
    go : (b : Bool) → flat_map (λ x. if p x then x ∷ [] else []) xs ≡ filter p xs → (if b then x ∷ [] else []) ++ flat_map (λ x. if p x then x ∷ [] else []) xs ≡ (if b then (x ∷ filter p xs) else filter p xs)
    go true ih = ap (λ ys. x ∷ ys) ih
    go false ih = ih

-- none passes so far, and the next does not either
none_by : {A : Type 0} (p : A → Bool) (xs : List A) (i : ℕ) → list_any p (take i xs) ≡ false → option_map_or p (slice_get xs i) false ≡ false → list_any p (take (suc i) xs) ≡ false
none_by p [] zero none next = refl
none_by p [] (suc i) none next = refl
none_by p (x ∷ xs) zero none next = ap (λ b. b || false) next
none_by {A} p (x ∷ xs) (suc i) none next = go (p x) (λ e. none_by p xs i e next) none
  where
    go : (b : Bool) → (list_any p (take i xs) ≡ false → list_any p (take (suc i) xs) ≡ false) → (b || list_any p (take i xs)) ≡ false → (b || list_any p (take (suc i) xs)) ≡ false
    go true rest e = absurd (cc e)
    go false rest e = rest e

pub none_further : {A : Type 0} (p : A → Bool) (xs : List A) (i : ℕ) → list_any p (take i xs) ≡ false → option_map_or p (slice_get xs i) false ≡ false → list_any p (take (i + 1) xs) ≡ false
none_further p xs i none next = let more : i + 1 ≡ suc i = omega arith in ap (λ n. list_any p (take n xs)) more ∙ none_by p xs i none next

-- one that passes
pub some_there : {A : Type 0} (p : A → Bool) (xs : List A) (i : ℕ) → option_map_or p (slice_get xs i) false ≡ true → list_any p xs ≡ true
some_there p [] zero passes = absurd (cc)
some_there p [] (suc i) passes = absurd (cc)
some_there p (x ∷ xs) zero passes = ap (λ b. b || list_any p xs) passes
some_there {A} p (x ∷ xs) (suc i) passes = go (p x) (some_there p xs i passes)
  where
    go : (b : Bool) → list_any p xs ≡ true → (b || list_any p xs) ≡ true
    go true rest = refl
    go false rest = rest
