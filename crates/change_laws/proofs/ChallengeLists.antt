-- What closing and answering make of a list in which each entry has at most one challenge.
use Rattle.std.proofs.Common.{◌≡◌, ℕ, ◌==◌, Bool, true, false, ◌||◌, not, List, [], ◌∷◌, refl, ap, sym, ◌∙◌, inl, inr, Some, None}
use Rattle.std.proofs.lemmas.Bool.Decides.{Decides-eqb}
use Rattle.std.specs.Prelude.{if◌then◌else◌, filter, find, map}
use Rattle.std.specs.Option.{option_map_or}
use Rattle.entry_changes.specs.declared.change.ChallengeChange.{ChallengeChange}
use Rattle.authority_model.specs.declared.pending.Pending.{Pending}
use Rattle.authority_model.specs.Lists.{Has, AtMostOne, any_of}
use Rattle.entry_changes.specs.Changes.{is_of_entry, without, without_all, after_challenges, close_one, close_all}
use Rattle.authority_model.proofs.Cases.{filter_has, map_has}
use Rattle.authority_laws.proofs.Standing.{filter_in, map_in, any_has}

-- functions that agree on the elements of a list map it alike
pub map_where : {A B : Type 0} (f g : A → B) (xs : List A) → ((x : A) → Has xs x → f x ≡ g x) → map f xs ≡ map g xs
map_where f g [] same = refl
map_where f g (x ∷ xs) same = ap (λ y. y ∷ map f xs) (same x (inl refl)) ∙ ap (λ ys. g x ∷ ys) (map_where f g xs (λ y h. same y (inr h)))

-- a function that changes no element of a list
pub map_same : {A : Type 0} (f : A → A) (xs : List A) → ((x : A) → Has xs x → f x ≡ x) → map f xs ≡ xs
map_same f [] same = refl
map_same f (x ∷ xs) same = ap (λ y. y ∷ map f xs) (same x (inl refl)) ∙ ap (λ ys. x ∷ ys) (map_same f xs (λ y h. same y (inr h)))

-- tests that agree on the elements of a list keep the same ones
pub filter_where : {A : Type 0} (p q : A → Bool) (xs : List A) → ((x : A) → Has xs x → p x ≡ q x) → filter p xs ≡ filter q xs
filter_where p q [] same = refl
filter_where p q (x ∷ xs) same = ap (λ b. if b then (x ∷ filter p xs) else filter p xs) (same x (inl refl)) ∙ ap (λ ys. if q x then (x ∷ ys) else ys) (filter_where p q xs (λ y h. same y (inr h)))

-- a filter by two tests, one after the other
filter_twice : {A : Type 0} (p q : A → Bool) (xs : List A) → filter (λ x. not (q x)) (filter (λ x. not (p x)) xs) ≡ filter (λ x. not (p x || q x)) xs
filter_twice p q [] = refl
filter_twice {A} p q (x ∷ xs) = of (p x) (filter_twice p q xs)
  where
    of : (b : Bool) → filter (λ x. not (q x)) (filter (λ x. not (p x)) xs) ≡ filter (λ x. not (p x || q x)) xs → filter (λ x. not (q x)) (if not b then (x ∷ filter (λ x. not (p x)) xs) else filter (λ x. not (p x)) xs) ≡ (if not (b || q x) then (x ∷ filter (λ x. not (p x || q x)) xs) else filter (λ x. not (p x || q x)) xs)
    of true ih = ih
    of false ih = ap (λ ys. if not (q x) then (x ∷ ys) else ys) ih

-- a test that nothing passes takes nothing out
pub filter_none : {A : Type 0} (xs : List A) → filter (λ x. not false) xs ≡ xs
filter_none [] = refl
filter_none (x ∷ xs) = ap (λ ys. x ∷ ys) (filter_none xs)

-- whether a challenge is of one of these entries
abbrev one_of : List ℕ → Pending → Bool
one_of es ch = any_of (λ e. is_of_entry e ch) es

-- taking several entries out, one after the other
without_each : (es : List ℕ) (items : List Pending) → without_all es items ≡ filter (λ ch. not (one_of es ch)) items
without_each [] items = sym (filter_none items)
without_each (e ∷ es) items = without_each es (without e items) ∙ filter_twice (is_of_entry e) (one_of es) items

-- each entry has at most one of these challenges
abbrev pub OneEach : List Pending → Type 0
OneEach items = (x y : Pending) → Has items x → Has items y → x.entry ≡ y.entry → x ≡ y

-- an element passes where a test holds of some
any_found : {A : Type 0} (test : A → Bool) (xs : List A) → any_of test xs ≡ true → (x : A) × Has xs x × (test x ≡ true)
any_found test [] e = absurd (cc)
any_found {A} test (x ∷ xs) e = of (test x) refl e (any_found test xs)
  where
    of : (b : Bool) → test x ≡ b → (b || any_of test xs) ≡ true → (any_of test xs ≡ true → (y : A) × Has xs y × (test y ≡ true)) → (y : A) × Has (x ∷ xs) y × (test y ≡ true)
    of true is e ih = (x, inl refl, is)
    of false is e ih = let rest = ih e in (rest.0, inr rest.1, rest.2)

-- tests that hold together are one
pub same_test : (a b : Bool) → (a ≡ true → b ≡ true) → (b ≡ true → a ≡ true) → a ≡ b
same_test true b forth back = sym (forth refl)
same_test false false forth back = refl
same_test false true forth back = back refl

-- numbers compare the same from both sides
pub swap_equal : (m n : ℕ) → (m == n) ≡ (n == m)
swap_equal m n = same_test (m == n) (n == m) (λ e. (Decides-eqb n m).1 (sym ((Decides-eqb m n).0 e))) (λ e. (Decides-eqb m n).1 (sym ((Decides-eqb n m).0 e)))

-- a challenge is of an entry of those that pass exactly if it passes
one_of_those : (test : Pending → Bool) (items : List Pending) → OneEach items → (ch : Pending) → Has items ch → one_of (map (λ (x : Pending). x.entry) (filter test items)) ch ≡ test ch
one_of_those test items one ch h = same_test (one_of (map (λ (x : Pending). x.entry) (filter test items)) ch) (test ch) forth back
  where
    forth : one_of (map (λ (x : Pending). x.entry) (filter test items)) ch ≡ true → test ch ≡ true
    forth e =
        let entry = any_found (λ e. is_of_entry e ch) (map (λ (x : Pending). x.entry) (filter test items)) e in
        let from = map_has (λ (x : Pending). x.entry) (filter test items) entry.0 entry.1 in
        let passes = filter_has test items from.0 from.1 in
        ap test (sym (one from.0 ch passes.0 h (from.2 ∙ (Decides-eqb entry.0 ch.entry).0 entry.2))) ∙ passes.1

    back : test ch ≡ true → one_of (map (λ (x : Pending). x.entry) (filter test items)) ch ≡ true
    back t = any_has (λ e. is_of_entry e ch) (map (λ (x : Pending). x.entry) (filter test items)) ch.entry (map_in (λ (x : Pending). x.entry) (filter test items) ch (filter_in test items ch h t)) ((Decides-eqb ch.entry ch.entry).1 refl)

-- closing all of a list takes their entries out
close_each : (chs items : List Pending) → after_challenges (close_all chs) items ≡ without_all (map (λ (x : Pending). x.entry) chs) items
close_each [] items = refl
close_each (ch ∷ chs) items = refl

-- closing those that pass a test leaves the others
pub closed_all : (test : Pending → Bool) (items : List Pending) → OneEach items → after_challenges (close_all (filter test items)) items ≡ filter (λ ch. not (test ch)) items
closed_all test items one =
    close_each (filter test items) items
    ∙ without_each (map (λ (x : Pending). x.entry) (filter test items)) items
    ∙ filter_where (λ ch. not (one_of (map (λ (x : Pending). x.entry) (filter test items)) ch)) (λ ch. not (test ch)) items (λ ch h. ap not (one_of_those test items one ch h))

-- nothing passes
filter_empty : {A : Type 0} (test : A → Bool) (xs : List A) → find test xs ≡ None → filter test xs ≡ []
filter_empty test [] e = refl
filter_empty {A} test (x ∷ xs) e = of (test x) e (filter_empty test xs)
  where
    of : (b : Bool) → (if b then Some x else find test xs) ≡ None → (find test xs ≡ None → filter test xs ≡ []) → (if b then (x ∷ filter test xs) else filter test xs) ≡ []
    of true e ih = absurd (cc)
    of false e ih = ih e

-- where at most one passes, closing the one that is found is closing those that pass
pub closed_found : (test : Pending → Bool) (items : List Pending) → AtMostOne test items → option_map_or close_one (find test items) ChallengeChange.Keep ≡ close_all (filter test items)
closed_found test [] one = refl
closed_found test (x ∷ xs) one = of (test x) refl (closed_found test xs one.1)
  where
    of : (b : Bool) → test x ≡ b → option_map_or close_one (find test xs) ChallengeChange.Keep ≡ close_all (filter test xs) → option_map_or close_one (if b then Some x else find test xs) ChallengeChange.Keep ≡ close_all (if b then (x ∷ filter test xs) else filter test xs)
    of true is ih = ap (λ ys. close_all (x ∷ ys)) (sym (filter_empty test xs (one.0 is)))
    of false is ih = ih
