-- A list that is sorted by a total order is the only one of its items.
use Rattle.std.proofs.Common.{◌≡◌, ℕ, suc, ◌+◌, ◌<◌, Bool, true, false, List, [], ◌∷◌, length, get_or, refl, ap, sym, ◌∙◌, subst, arith, add-one}
use Rattle.std.specs.Cmp.{IsTotalOrder}
use Rattle.std.specs.FinMap.{IsAntisymmetric}
use Rattle.std.specs.List.{sum_by}
use Rattle.std.specs.List.Sorted.{IsPermutation, IsSorted}
use Rattle.std.specs.Ordering.{is_lt, ordering_reverse}
use Rattle.std.specs.declared.cmp.Ordering.{Ordering}
use Rattle.std.specs.declared.cmp.Ordering.TheVariants.{Less, Equal, Greater}
use Rattle.std.proofs.lemmas.List.Sorted.{sum_by-IsPermutation, sorted_far, ranks_by}
use Rattle.std.proofs.lemmas.List.Sums.{sum_by-cons}

zero_sum : {X : Type 0} (f : X → ℕ) (xs : List X) (d : X) → ((j : ℕ) → j < length xs → f (get_or xs j d) ≡ 0) → sum_by f xs ≡ 0
zero_sum f [] d none = refl
zero_sum f (x ∷ xs) d none =
    let here : f x ≡ 0 = none 0 (omega arith) in
    let rest : sum_by f xs ≡ 0 = zero_sum f xs d (λ j lt. none (suc j) (omega arith)) in
    sum_by-cons f x xs ∙ omega arith

-- 1 for an element that is counted
abbrev flag : Bool → ℕ
flag true = 1
flag false = 0

-- how many of a list are less than its first
no_less : {X : Type 0} (R : X → X → Ordering) → IsTotalOrder R → (x : X) (xs : List X) → IsSorted R (x ∷ xs) → sum_by (λ p. flag (is_lt (R p x))) (x ∷ xs) ≡ 0
no_less R o x xs up =
    zero_sum (λ p. flag (is_lt (R p x))) (x ∷ xs) x
    (λ j lt. ap flag (sorted_far (λ a b. is_lt (R a b)) (ranks_by o (λ a. a)) (x ∷ xs) up 0 j x (omega arith) lt))

first_zero : {X : Type 0} (f : X → ℕ) (y : X) (ys : List X) → sum_by f (y ∷ ys) ≡ 0 → f y ≡ 0
first_zero f y ys none = let parts : f y + sum_by f ys ≡ 0 = sym (sum_by-cons f y ys) ∙ none in omega arith

not_counted : (t : Bool) → flag t ≡ 0 → t ≡ false
not_counted true e = absurd (omega arith)
not_counted false e = refl

-- neither of two is less
tied : {X : Type 0} (R : X → X → Ordering) → IsTotalOrder R → (x y : X) → is_lt (R x y) ≡ false → is_lt (R y x) ≡ false → R x y ≡ Equal
tied R o x y first second = of (R x y) (R y x) (o.antisymm x y) first second
  where
    of : (r s : Ordering) → r ≡ ordering_reverse s → is_lt r ≡ false → is_lt s ≡ false → r ≡ Equal
    of Less s e a b = absurd (cc)
    of Equal s e a b = refl
    of Greater Less e a b = absurd (cc)
    of Greater Equal e a b = absurd (cc)
    of Greater Greater e a b = absurd (cc)

same_first : {X : Type 0} (R : X → X → Ordering) → IsTotalOrder R → IsAntisymmetric R → (x y : X) (xs ys : List X) → ((f : X → ℕ) → sum_by f (x ∷ xs) ≡ sum_by f (y ∷ ys)) → IsSorted R (x ∷ xs) → IsSorted R (y ∷ ys) → x ≡ y
same_first R o same x y xs ys sums up other =
    let first : is_lt (R x y) ≡ false = not_counted (is_lt (R x y)) (first_zero (λ p. flag (is_lt (R p y))) x xs (sums (λ p. flag (is_lt (R p y))) ∙ no_less R o y ys other)) in
    let second : is_lt (R y x) ≡ false = not_counted (is_lt (R y x)) (first_zero (λ p. flag (is_lt (R p x))) y ys (sym (sums (λ p. flag (is_lt (R p x)))) ∙ no_less R o x xs up)) in
    same x y (tied R o x y first second)

pub sorted_rest : {X : Type 0} (R : X → X → Ordering) (x : X) (xs : List X) → IsSorted R (x ∷ xs) → IsSorted R xs
sorted_rest R x xs up = λ k d low high.
    let at : is_lt (R (get_or (x ∷ xs) (suc k + 1) d) (get_or xs k d)) ≡ false = up (suc k) d (omega arith) (omega arith) in
    subst (λ n. is_lt (R (get_or xs n d) (get_or xs k d)) ≡ false) (sym (add-one k))
    (subst (λ n. is_lt (R (get_or (x ∷ xs) n d) (get_or xs k d)) ≡ false) (add-one (suc k)) at)

less_by_one : {X : Type 0} (f : X → ℕ) (x y : X) (xs ys : List X) → x ≡ y → sum_by f (x ∷ xs) ≡ sum_by f (y ∷ ys) → sum_by f xs ≡ sum_by f ys
less_by_one f x y xs ys first sums =
    let heads : f x ≡ f y = ap f first in
    let left : sum_by f (x ∷ xs) ≡ f x + sum_by f xs = sum_by-cons f x xs in
    let right : sum_by f (y ∷ ys) ≡ f y + sum_by f ys = sum_by-cons f y ys in
    let both : f x + sum_by f xs ≡ f y + sum_by f ys = sym left ∙ sums ∙ right in
    omega arith

same_sums : {X : Type 0} (R : X → X → Ordering) → IsTotalOrder R → IsAntisymmetric R → (xs ys : List X) → ((f : X → ℕ) → sum_by f xs ≡ sum_by f ys) → IsSorted R xs → IsSorted R ys → xs ≡ ys
same_sums R o same [] [] sums up other = refl
same_sums R o same [] (y ∷ ys) sums up other =
    absurd (let count : 0 ≡ 1 + sum_by (λ p. 1) ys = sums (λ p. 1) ∙ sum_by-cons (λ p. 1) y ys in omega arith)
same_sums R o same (x ∷ xs) [] sums up other =
    absurd (let count : 0 ≡ 1 + sum_by (λ p. 1) xs = sym (sums (λ p. 1)) ∙ sum_by-cons (λ p. 1) x xs in omega arith)
same_sums R o same (x ∷ xs) (y ∷ ys) sums up other =
    let first : x ≡ y = same_first R o same x y xs ys sums up other in
    ap (λ z. z ∷ xs) first
    ∙ ap (λ zs. y ∷ zs) (same_sums R o same xs ys (λ f. less_by_one f x y xs ys first (sums f)) (sorted_rest R x xs up) (sorted_rest R y ys other))

-- two sorted lists of the items of a third are one
pub one_sorted : {X : Type 0} (R : X → X → Ordering) → IsTotalOrder R → IsAntisymmetric R → (items xs ys : List X) → IsPermutation items xs → IsPermutation items ys → IsSorted R xs → IsSorted R ys → xs ≡ ys
one_sorted R o same items xs ys left right up other =
    same_sums R o same xs ys (λ f. sum_by-IsPermutation f items xs left ∙ sym (sum_by-IsPermutation f items ys right)) up other
