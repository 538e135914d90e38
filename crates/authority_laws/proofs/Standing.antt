-- What is in a list, and tests that do not hold.
use Rattle.std.proofs.Common.{◌≡◌, Bool, true, false, ◌||◌, not, List, [], ◌∷◌, ◌++◌, refl, ap, sym, ◌∙◌, inl, inr, Option, Some, None, is_some}
use Rattle.std.specs.Prelude.{if◌then◌else◌, filter, map}
use Rattle.authority_model.specs.Lists.{Has, any_of}

-- a search that did not find anything
pub not_some : {A : Type 0} (o : Option A) → not (is_some o) ≡ true → o ≡ None
not_some None e = refl
not_some (Some x) e = absurd (cc)

-- a test whose opposite holds
pub not_true : (b : Bool) → not b ≡ true → b ≡ false
not_true false e = refl
not_true true e = absurd (cc)

-- what is in one of two lists is in both together
pub has_left : {A : Type 0} (xs ys : List A) (y : A) → Has xs y → Has (xs ++ ys) y
has_left [] ys y h = absurd h
has_left (x ∷ xs) ys y (inl same) = inl same
has_left (x ∷ xs) ys y (inr h) = inr (has_left xs ys y h)

pub has_right : {A : Type 0} (xs ys : List A) (y : A) → Has ys y → Has (xs ++ ys) y
has_right [] ys y h = h
has_right (x ∷ xs) ys y h = inr (has_right xs ys y h)

-- what passes is in the filtered list
pub filter_in : {A : Type 0} (test : A → Bool) (xs : List A) (y : A) → Has xs y → test y ≡ true → Has (filter test xs) y
filter_in test [] y h t = absurd h
filter_in {A} test (x ∷ xs) y h t = go (test x) refl h (λ h. filter_in test xs y h t)
  where
    go : (b : Bool) → test x ≡ b → Has (x ∷ xs) y → (Has xs y → Has (filter test xs) y) → Has (if b then (x ∷ filter test xs) else filter test xs) y
    go true is (inl same) ih = inl same
    go true is (inr h) ih = inr (ih h)
    go false is (inl same) ih = absurd (cc (sym is ∙ ap test same ∙ t))
    go false is (inr h) ih = ih h

-- what a mapped list has for an element
pub map_in : {A B : Type 0} (f : A → B) (xs : List A) (x : A) → Has xs x → Has (map f xs) (f x)
map_in f [] x h = absurd h
map_in f (y ∷ ys) x (inl same) = inl (ap f same)
map_in f (y ∷ ys) x (inr h) = inr (map_in f ys x h)

-- an element that passes makes the test hold of some
pub any_has : {A : Type 0} (test : A → Bool) (xs : List A) (x : A) → Has xs x → test x ≡ true → any_of test xs ≡ true
any_has test [] x h t = absurd h
any_has test (y ∷ ys) x (inl same) t = ap (λ b. b || any_of test ys) (ap test same ∙ t)
any_has {A} test (y ∷ ys) x (inr h) t = of (test y) (any_has test ys x h t)
  where
    of : (b : Bool) → any_of test ys ≡ true → (b || any_of test ys) ≡ true
    of true e = refl
    of false e = e

-- where neither of two tests holds, each does not
pub neither : (a b : Bool) → (a || b) ≡ false → (a ≡ false) × (b ≡ false)
neither false b e = (refl, e)
neither true b e = absurd (cc)
