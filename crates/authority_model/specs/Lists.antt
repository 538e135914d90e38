-- Words on options and lists that the definitions share.
use Rattle.std.specs.Prelude.{Bool, true, not, if◌then◌else◌, List, [], ◌∷◌, Option, Some, None, filter, find, ◌≡◌, ◌⊎◌, ⊤}
use Rattle.std.specs.List.{list_any}
use Rattle.std.specs.Option.{option_or}

-- the first of two values that is there
abbrev pub or_else : {A : Type 0} → Option A → Option A → Option A
or_else first second = option_or first second

-- the value where the test holds
abbrev pub when : {A : Type 0} → Bool → A → Option A
when test value = if test then Some value else None

-- whether an element passes the test
abbrev pub any_of : {A : Type 0} → (A → Bool) → List A → Bool
any_of test xs = list_any test xs

-- the last element that passes the test
abbrev pub find_last : {A : Type 0} → (A → Bool) → List A → Option A
find_last test [] = None
find_last test (x ∷ xs) = or_else (find_last test xs) (when (test x) x)

-- the list without each element that is the same as one before it
abbrev pub without_repeats : {A : Type 0} → (A → A → Bool) → List A → List A
without_repeats same [] = []
without_repeats same (x ∷ xs) = x ∷ filter (λ y. not (same x y)) (without_repeats same xs)

-- the element stands in the list
abbrev pub Has : {A : Type 0} → List A → A → Type 0
Has [] x = ⊥
Has (y ∷ ys) x = (y ≡ x) ⊎ Has ys x

-- the fact holds of each element
abbrev pub Each : {A : Type 0} → (A → Type 0) → List A → Type 0
Each P [] = ⊤
Each P (x ∷ xs) = P x × Each P xs

-- at most one element passes the test
abbrev pub AtMostOne : {A : Type 0} → (A → Bool) → List A → Type 0
AtMostOne test [] = ⊤
AtMostOne test (x ∷ xs) = (test x ≡ true → find test xs ≡ None) × AtMostOne test xs
