-- Lists of which at most one element passes a test.
use Rattle.std.proofs.Common.{◌≡◌, Bool, true, false, not, List, [], ◌∷◌, ◌++◌, refl, ap, sym, ◌∙◌, inl, inr, Option, Some, None}
use Rattle.std.specs.Prelude.{if◌then◌else◌, filter, find, map, option_map}
use Rattle.authority_model.specs.Lists.{or_else, AtMostOne, Has}

-- the value, unless the test holds of it
abbrev pub unless : {A : Type 0} → (A → Bool) → Option A → Option A
unless test None = None
unless test (Some a) = if test a then None else Some a

-- a search through two lists
pub find_append : {A : Type 0} (test : A → Bool) (xs ys : List A) → find test (xs ++ ys) ≡ or_else (find test xs) (find test ys)
find_append test [] ys = refl
find_append {A} test (x ∷ xs) ys = go (test x) (find_append test xs ys)
  where
    go : (b : Bool) → find test (xs ++ ys) ≡ or_else (find test xs) (find test ys) → (if b then Some x else find test (xs ++ ys)) ≡ or_else (if b then Some x else find test xs) (find test ys)
    go true ih = refl
    go false ih = ih

-- a search after a filter, where at most one passes
pub find_filter : {A : Type 0} (test out : A → Bool) (xs : List A) → AtMostOne test xs → find test (filter (λ x. not (out x)) xs) ≡ unless out (find test xs)
find_filter test out [] one = refl
find_filter {A} test out (x ∷ xs) one = go (test x) (out x) refl refl (find_filter test out xs one.1)
  where
    go : (t o : Bool) → test x ≡ t → out x ≡ o → find test (filter (λ x. not (out x)) xs) ≡ unless out (find test xs) → find test (if not o then (x ∷ filter (λ x. not (out x)) xs) else filter (λ x. not (out x)) xs) ≡ unless out (if t then Some x else find test xs)
    go true true t o ih = ih ∙ ap (unless out) (one.0 t) ∙ sym (ap (λ b. if b then None else Some x) o)
    go true false t o ih = ap (λ b. if b then Some x else find test (filter (λ x. not (out x)) xs)) t ∙ sym (ap (λ b. if b then None else Some x) o)
    go false true t o ih = ih
    go false false t o ih = ap (λ b. if b then Some x else find test (filter (λ x. not (out x)) xs)) t ∙ ih

-- a filter leaves at most one
pub one_filter : {A : Type 0} (test out : A → Bool) (xs : List A) → AtMostOne test xs → AtMostOne test (filter (λ x. not (out x)) xs)
one_filter test out [] one = tt
one_filter {A} test out (x ∷ xs) one = go (out x) (find_filter test out xs one.1) (one_filter test out xs one.1)
  where
    go : (o : Bool) → find test (filter (λ x. not (out x)) xs) ≡ unless out (find test xs) → AtMostOne test (filter (λ x. not (out x)) xs) → AtMostOne test (if not o then (x ∷ filter (λ x. not (out x)) xs) else filter (λ x. not (out x)) xs)
    go true f ih = ih
    go false f ih = (λ t. f ∙ ap (unless out) (one.0 t), ih)

-- one more element, where no other passes with it
pub one_append : {A : Type 0} (test : A → Bool) (xs : List A) (y : A) → AtMostOne test xs → (test y ≡ true → find test xs ≡ None) → AtMostOne test (xs ++ y ∷ [])
one_append test [] y one h = (λ t. refl, tt)
one_append {A} test (x ∷ xs) y one h = (λ t. find_append test xs (y ∷ []) ∙ first t (test y) refl, one_append test xs y one.1 (λ t. rest (test x) refl (h t)))
  where
    rest : (b : Bool) → test x ≡ b → (if b then Some x else find test xs) ≡ None → find test xs ≡ None
    rest true is e = absurd (cc)
    rest false is e = e

    first : test x ≡ true → (b : Bool) → test y ≡ b → or_else (find test xs) (if b then Some y else None) ≡ None
    first t true is = absurd (cc (sym (ap (λ b. if b then Some x else find test xs) t) ∙ h is))
    first t false is = ap (λ o. or_else o None) (one.0 t)

-- a search finds nothing exactly where nothing passes
pub find_none : {A : Type 0} (test : A → Bool) (xs : List A) → ((x : A) → Has xs x → test x ≡ false) → find test xs ≡ None
find_none test [] h = refl
find_none test (x ∷ xs) h = ap (λ b. if b then Some x else find test xs) (h x (inl refl)) ∙ find_none test xs (λ y k. h y (inr k))

pub none_passes : {A : Type 0} (test : A → Bool) (xs : List A) → find test xs ≡ None → (x : A) → Has xs x → test x ≡ false
none_passes test [] e x h = absurd h
none_passes {A} test (y ∷ ys) e x h = go (test y) refl e h (λ e h. none_passes test ys e x h)
  where
    go : (b : Bool) → test y ≡ b → (if b then Some y else find test ys) ≡ None → Has (y ∷ ys) x → (find test ys ≡ None → Has ys x → test x ≡ false) → test x ≡ false
    go true is e h ih = absurd (cc)
    go false is e (inl same) ih = ap test (sym same) ∙ is
    go false is e (inr h) ih = ih e h

-- the only element that passes is found
pub find_only : {A : Type 0} (test : A → Bool) (xs : List A) → AtMostOne test xs → (x : A) → Has xs x → test x ≡ true → find test xs ≡ Some x
find_only test [] one x h t = absurd h
find_only {A} test (y ∷ ys) one x h t = go (test y) refl h (λ h. find_only test ys one.1 x h t)
  where
    go : (b : Bool) → test y ≡ b → Has (y ∷ ys) x → (Has ys x → find test ys ≡ Some x) → (if b then Some y else find test ys) ≡ Some x
    go true is (inl same) ih = ap Some same
    go true is (inr h) ih = let none : test x ≡ false = none_passes test ys (one.0 is) x h in absurd (cc)
    go false is (inl same) ih = let none : test x ≡ false = ap test (sym same) ∙ is in absurd (cc)
    go false is (inr h) ih = ih h

-- a search through a mapped list, by a test that the map does not change
pub find_map : {A : Type 0} (test : A → Bool) (f : A → A) → ((x : A) → test (f x) ≡ test x) → (xs : List A) → find test (map f xs) ≡ option_map f (find test xs)
find_map test f h [] = refl
find_map {A} test f h (x ∷ xs) = ap (λ b. if b then Some (f x) else find test (map f xs)) (h x) ∙ go (test x) (find_map test f h xs)
  where
    go : (b : Bool) → find test (map f xs) ≡ option_map f (find test xs) → (if b then Some (f x) else find test (map f xs)) ≡ option_map f (if b then Some x else find test xs)
    go true e = refl
    go false e = e

-- a map that the test does not see
pub one_map : {A : Type 0} (test : A → Bool) (f : A → A) → ((x : A) → test (f x) ≡ test x) → (xs : List A) → AtMostOne test xs → AtMostOne test (map f xs)
one_map test f h [] one = tt
one_map test f h (x ∷ xs) one = (λ t. find_map test f h xs ∙ ap (option_map f) (one.0 (sym (h x) ∙ t)), one_map test f h xs one.1)
