-- Cases on a test, on an option and on a search, with the equation kept.
use Rattle.std.proofs.Common.{◌≡◌, Bool, true, false, ◌&&◌, List, [], ◌∷◌, ◌++◌, refl, ap, sym, ◌∙◌, inl, inr, Option, Some, None, ◌⊎◌, subst}
use Rattle.std.specs.Prelude.{if◌then◌else◌, find, filter, map, option_map, option_and_then}
use Rattle.std.specs.Option.{option_map_or}
use Rattle.authority_model.specs.Lists.{Has, Each, or_else, when, find_last}

-- a fact of both choices holds of the choice
pub by_test : {A : Type 0} (P : A → Type 0) (b : Bool) (x y : A) → (b ≡ true → P x) → (b ≡ false → P y) → P (if b then x else y)
by_test P true x y t f = t refl
by_test P false x y t f = f refl

pub by_option : {A B : Type 0} (P : B → Type 0) (f : A → B) (o : Option A) (d : B) → (o ≡ None → P d) → ((x : A) → o ≡ Some x → P (f x)) → P (option_map_or f o d)
by_option P f None d n s = n refl
by_option P f (Some x) d n s = s x refl

-- what a mapped, chained or guarded option came from
pub map_some : {A B : Type 0} (f : A → B) (o : Option A) (y : B) → option_map f o ≡ Some y → (x : A) × (o ≡ Some x) × (f x ≡ y)
map_some f None y e = absurd (cc)
map_some f (Some x) y e = (x, refl, cc)

pub then_some : {A B : Type 0} (f : A → Option B) (o : Option A) (y : B) → option_and_then f o ≡ Some y → (x : A) × (o ≡ Some x) × (f x ≡ Some y)
then_some f None y e = absurd (cc)
then_some f (Some x) y e = (x, refl, e)

pub when_some : {A : Type 0} (b : Bool) (a y : A) → when b a ≡ Some y → (b ≡ true) × (a ≡ y)
when_some true a y e = (refl, cc)
when_some false a y e = absurd (cc)

-- both parts of a test
pub both : (a b : Bool) → (a && b) ≡ true → (a ≡ true) × (b ≡ true)
both true true e = (refl, refl)
both true false e = absurd (cc)
both false b e = absurd (cc)

-- what a search finds is there and passes
pub find_has : {A : Type 0} (test : A → Bool) (xs : List A) (y : A) → find test xs ≡ Some y → Has xs y × (test y ≡ true)
find_has test [] y e = absurd (cc)
find_has test (x ∷ xs) y e = go (find_has test xs y) (test x) refl e
  where
    go : (find test xs ≡ Some y → Has xs y × (test y ≡ true)) → (b : Bool) → test x ≡ b → (if b then Some x else find test xs) ≡ Some y → Has (x ∷ xs) y × (test y ≡ true)
    go ih true is e = let same : x ≡ y = cc in (inl same, ap test (sym same) ∙ is)
    go ih false is e = let rest = ih e in (inr rest.0, rest.1)

-- the same from the end
pub find_last_passes : {A : Type 0} (test : A → Bool) (xs : List A) (y : A) → find_last test xs ≡ Some y → test y ≡ true
find_last_passes test [] y e = absurd (cc)
find_last_passes {A} test (x ∷ xs) y e = go (find_last test xs) (find_last_passes test xs y) (test x) refl e
  where
    go : (o : Option A) → (o ≡ Some y → test y ≡ true) → (b : Bool) → test x ≡ b → or_else o (when b x) ≡ Some y → test y ≡ true
    go (Some z) ih b is e = ih e
    go None ih true is e = let same : x ≡ y = cc in ap test (sym same) ∙ is
    go None ih false is e = absurd (cc)

-- what stands in a filtered list, a mapped one, or either of two
pub filter_has : {A : Type 0} (test : A → Bool) (xs : List A) (y : A) → Has (filter test xs) y → Has xs y × (test y ≡ true)
filter_has test [] y h = absurd h
filter_has test (x ∷ xs) y h = go (filter_has test xs y) (test x) refl h
  where
    go : (Has (filter test xs) y → Has xs y × (test y ≡ true)) → (b : Bool) → test x ≡ b → Has (if b then (x ∷ filter test xs) else filter test xs) y → Has (x ∷ xs) y × (test y ≡ true)
    go ih true is (inl same) = (inl same, ap test (sym same) ∙ is)
    go ih true is (inr h) = let rest = ih h in (inr rest.0, rest.1)
    go ih false is h = let rest = ih h in (inr rest.0, rest.1)

pub map_has : {A B : Type 0} (f : A → B) (xs : List A) (y : B) → Has (map f xs) y → (x : A) × Has xs x × (f x ≡ y)
map_has f [] y h = absurd h
map_has f (x ∷ xs) y (inl same) = (x, inl refl, same)
map_has f (x ∷ xs) y (inr h) = let rest = map_has f xs y h in (rest.0, inr rest.1, rest.2)

pub append_has : {A : Type 0} (xs ys : List A) (y : A) → Has (xs ++ ys) y → Has xs y ⊎ Has ys y
append_has [] ys y h = inr h
append_has (x ∷ xs) ys y (inl same) = inl (inl same)
append_has (x ∷ xs) ys y (inr h) = go (append_has xs ys y h)
  where
    go : Has xs y ⊎ Has ys y → Has (x ∷ xs) y ⊎ Has ys y
    go (inl h) = inl (inr h)
    go (inr h) = inr h

-- a fact of each element, over lists that are put together
pub Each-append : {A : Type 0} (P : A → Type 0) (xs ys : List A) → Each P xs → Each P ys → Each P (xs ++ ys)
Each-append P [] ys h k = k
Each-append P (x ∷ xs) ys h k = (h.0, Each-append P xs ys h.1 k)

pub Each-map : {A B : Type 0} (P : B → Type 0) (f : A → B) (xs : List A) → ((x : A) → P (f x)) → Each P (map f xs)
Each-map P f [] h = tt
Each-map P f (x ∷ xs) h = (h x, Each-map P f xs h)

pub Each-has : {A : Type 0} (P : A → Type 0) (xs : List A) → Each P xs → (x : A) → Has xs x → P x
Each-has P [] h x k = absurd k
Each-has P (y ∷ ys) h x (inl same) = subst P same h.0
Each-has P (y ∷ ys) h x (inr k) = Each-has P ys h.1 x k

pub Each-from : {A : Type 0} (P : A → Type 0) (xs : List A) → ((x : A) → Has xs x → P x) → Each P xs
Each-from P [] h = tt
Each-from P (x ∷ xs) h = (h x (inl refl), Each-from P xs (λ y k. h y (inr k)))
