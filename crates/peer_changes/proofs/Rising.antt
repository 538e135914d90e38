-- Numbers in rising order: one more, one fewer, and which stand there.
use Rattle.std.proofs.Common.{◌≡◌, ◌<◌, ◌≤◌, ℕ, zero, suc, ◌==◌, Bool, true, false, ◌&&◌, ◌||◌, not, List, [], ◌∷◌, refl, ap, sym, ◌∙◌, cond, length, get_or, subst, Ok, Err, arith}
use Rattle.std.proofs.lemmas.Bool.Decides.{Decides-eqb, nat_tests}
use Rattle.std.proofs.lemmas.Map.Keys.{sorted_head, sorted_tail, below_from_sorted, non_decreasing_from_sorted}
use Rattle.std.proofs.lemmas.List.Sorted.{searched}
use Rattle.std.specs.declared.cmp.Ordering.TheVariants.{Less, Equal, Greater}
use Rattle.std.specs.Prelude.{if◌then◌else◌, filter, nat_eq, nat_lt}
use Rattle.std.specs.List.{AllByRecursion, insert, list_any}
use Rattle.std.specs.List.Sorted.{IsStrictlySortedBy, IsBinarySearchResult}
use Rattle.std.specs.Ordering.{nat_cmp}
use Rattle.authority_model.specs.Peers.{insert_rising}

-- a lesser number compares as less
less : (a b : ℕ) → nat_lt a b ≡ true → nat_cmp a b ≡ Less
less a b is = ap (λ t. cond t Less (cond (a == b) Equal Greater)) is

-- a number that is neither less nor the same compares the other way round
greater : (a b : ℕ) → nat_lt a b ≡ false → (a == b) ≡ false → nat_cmp b a ≡ Less
greater a b lt eq = less b a (grind (arith, nat_tests))

-- what is less than a lesser one is less
less_less : (a b c : ℕ) → nat_cmp a b ≡ Less → nat_cmp b c ≡ Less → nat_cmp a c ≡ Less
less_less a b c first second = less a c (grind (arith, nat_tests))

-- what is below a number is below those that the number is below
all_below : (a b : ℕ) (xs : List ℕ) → nat_cmp a b ≡ Less → AllByRecursion (λ y. nat_cmp b y ≡ Less) xs → AllByRecursion (λ y. nat_cmp a y ≡ Less) xs
all_below a b [] less all = tt
all_below a b (x ∷ xs) less all = (less_less a b x less all.0, all_below a b xs less all.1)

-- the same with one number more
all_put : (a n : ℕ) (ms : List ℕ) → nat_cmp a n ≡ Less → AllByRecursion (λ y. nat_cmp a y ≡ Less) ms → AllByRecursion (λ y. nat_cmp a y ≡ Less) (insert_rising n ms)
all_put a n [] less all = (less, tt)
all_put a n (m ∷ ms) less all = go (nat_lt n m) (n == m) (all_put a n ms less all.1)
  where
    go : (l e : Bool) → AllByRecursion (λ y. nat_cmp a y ≡ Less) (insert_rising n ms) → AllByRecursion (λ y. nat_cmp a y ≡ Less) (if l then n ∷ m ∷ ms else (if e then m ∷ ms else m ∷ insert_rising n ms))
    go true e rest = (less, all)
    go false true rest = all
    go false false rest = (all.0, rest)

-- no numbers rise
pub sorted_none : IsStrictlySortedBy nat_cmp []
unfolding IsStrictlySortedBy
sorted_none = tt

-- a number before greater ones that rise
sorted_more : (x : ℕ) (xs : List ℕ) → AllByRecursion (λ y. nat_cmp x y ≡ Less) xs → IsStrictlySortedBy nat_cmp xs → IsStrictlySortedBy nat_cmp (x ∷ xs)
unfolding IsStrictlySortedBy
sorted_more x xs all sorted = (all, sorted)

-- numbers in rising order still rise with one more
pub sorted_put : (n : ℕ) (ms : List ℕ) → IsStrictlySortedBy nat_cmp ms → IsStrictlySortedBy nat_cmp (insert_rising n ms)
sorted_put n [] sorted = sorted_more n [] tt sorted_none
sorted_put n (m ∷ ms) sorted = go (nat_lt n m) (n == m) refl refl (sorted_put n ms (sorted_tail nat_cmp m ms sorted))
  where
    go : (l e : Bool) → nat_lt n m ≡ l → (n == m) ≡ e → IsStrictlySortedBy nat_cmp (insert_rising n ms) → IsStrictlySortedBy nat_cmp (if l then n ∷ m ∷ ms else (if e then m ∷ ms else m ∷ insert_rising n ms))
    go true e lt eq rest = sorted_more n (m ∷ ms) (less n m lt, all_below n m ms (less n m lt) (sorted_head nat_cmp m ms sorted)) sorted
    go false true lt eq rest = sorted
    go false false lt eq rest = sorted_more m (insert_rising n ms) (all_put m n ms (greater n m lt eq) (sorted_head nat_cmp m ms sorted)) rest

-- what is left of numbers above one is above it
all_left : (a : ℕ) (test : ℕ → Bool) (xs : List ℕ) → AllByRecursion (λ y. nat_cmp a y ≡ Less) xs → AllByRecursion (λ y. nat_cmp a y ≡ Less) (filter test xs)
all_left a test [] all = tt
all_left a test (x ∷ xs) all = go (test x) (all_left a test xs all.1)
  where
    go : (b : Bool) → AllByRecursion (λ y. nat_cmp a y ≡ Less) (filter test xs) → AllByRecursion (λ y. nat_cmp a y ≡ Less) (if b then x ∷ filter test xs else filter test xs)
    go true rest = (all.0, rest)
    go false rest = rest

-- what is left of numbers in rising order rises
pub sorted_left : (test : ℕ → Bool) (xs : List ℕ) → IsStrictlySortedBy nat_cmp xs → IsStrictlySortedBy nat_cmp (filter test xs)
sorted_left test [] sorted = sorted_none
sorted_left test (x ∷ xs) sorted = go (test x) (sorted_left test xs (sorted_tail nat_cmp x xs sorted))
  where
    go : (b : Bool) → IsStrictlySortedBy nat_cmp (filter test xs) → IsStrictlySortedBy nat_cmp (if b then x ∷ filter test xs else filter test xs)
    go true rest = sorted_more x (filter test xs) (all_left x test xs (sorted_head nat_cmp x xs sorted)) rest
    go false rest = rest

-- two tests of three change places
turned : (a b c : Bool) → (b || (a || c)) ≡ (a || (b || c))
turned true true c = refl
turned true false c = refl
turned false true c = refl
turned false false c = refl

-- a test that stands twice counts once
once : (b c : Bool) → (b || c) ≡ (b || (b || c))
once true c = refl
once false c = refl

-- after one more, that number stands there and each other one as before
pub has_put : (q n : ℕ) (ms : List ℕ) → list_any (nat_eq q) (insert_rising n ms) ≡ ((q == n) || list_any (nat_eq q) ms)
has_put q n [] = refl
has_put q n (m ∷ ms) = go (nat_lt n m) (n == m) refl (has_put q n ms)
  where
    go : (l e : Bool) → (n == m) ≡ e → list_any (nat_eq q) (insert_rising n ms) ≡ ((q == n) || list_any (nat_eq q) ms)
        → list_any (nat_eq q) (if l then n ∷ m ∷ ms else (if e then m ∷ ms else m ∷ insert_rising n ms)) ≡ ((q == n) || ((q == m) || list_any (nat_eq q) ms))
    go true e eq rest = refl
    go false true eq rest = once (q == m) (list_any (nat_eq q) ms) ∙ ap (λ k. (q == k) || ((q == m) || list_any (nat_eq q) ms)) (sym ((Decides-eqb n m).0 eq))
    go false false eq rest = ap (λ b. (q == m) || b) rest ∙ turned (q == n) (q == m) (list_any (nat_eq q) ms)

-- after one is taken out, it does not stand there and each other one as before
pub has_left : (q n : ℕ) (ms : List ℕ) → list_any (nat_eq q) (filter (λ m. not (m == n)) ms) ≡ (not (q == n) && list_any (nat_eq q) ms)
has_left q n [] = none (q == n)
  where
    none : (b : Bool) → false ≡ (not b && false)
    none true = refl
    none false = refl
has_left q n (m ∷ ms) = go (m == n) (q == m) (q == n) refl refl refl (has_left q n ms)
  where
    same : q ≡ m → (m == n) ≡ (q == n)
    same e = ap (λ k. k == n) (sym e)

    go : (e a b : Bool) → (m == n) ≡ e → (q == m) ≡ a → (q == n) ≡ b → list_any (nat_eq q) (filter (λ m. not (m == n)) ms) ≡ (not (q == n) && list_any (nat_eq q) ms)
        → list_any (nat_eq q) (if not e then m ∷ filter (λ m. not (m == n)) ms else filter (λ m. not (m == n)) ms) ≡ (not b && (a || list_any (nat_eq q) ms))
    go true a true here at is rest = rest ∙ ap (λ t. not t && list_any (nat_eq q) ms) is
    go true true false here at is rest = absurd (cc (same ((Decides-eqb q m).0 at)))
    go true false false here at is rest = rest ∙ ap (λ t. not t && list_any (nat_eq q) ms) is
    go false true true here at is rest = absurd (cc (same ((Decides-eqb q m).0 at)))
    go false true false here at is rest = ap (λ t. t || list_any (nat_eq q) (filter (λ m. not (m == n)) ms)) at
    go false false true here at is rest = ap (λ t. t || list_any (nat_eq q) (filter (λ m. not (m == n)) ms)) at ∙ rest ∙ ap (λ t. not t && list_any (nat_eq q) ms) is
    go false false false here at is rest = ap (λ t. t || list_any (nat_eq q) (filter (λ m. not (m == n)) ms)) at ∙ rest ∙ ap (λ t. not t && list_any (nat_eq q) ms) is

-- a number that is put between the lesser and the greater ones is put in rising order
pub put_between : (xs : List ℕ) (i x : ℕ) → i ≤ length xs → ((k : ℕ) → k < i → get_or xs k 0 < x) → ((k : ℕ) → i ≤ k → k < length xs → x < get_or xs k 0) → insert xs i x ≡ insert_rising x xs
put_between [] zero x le below above = refl
put_between [] (suc i) x le below above = absurd (omega (arith, le))
put_between (m ∷ ms) zero x le below above =
    let first : x < m = above zero (omega arith) (omega arith) in
    let lt : nat_lt x m ≡ true = grind (arith, nat_tests) in
    sym (ap (λ b. if b then x ∷ m ∷ ms else (if x == m then m ∷ ms else m ∷ insert_rising x ms)) lt)
put_between (m ∷ ms) (suc i) x le below above =
    let first : m < x = below zero (omega arith) in
    let lt : nat_lt x m ≡ false = grind (arith, nat_tests) in
    let eq : (x == m) ≡ false = grind (arith, nat_tests) in
    ap (λ ns. m ∷ ns) (put_between ms i x (omega (arith, le)) (λ k less. below (suc k) (omega (arith, less))) (λ k le less. above (suc k) (omega (arith, le)) (omega (arith, less))))
    ∙ sym (ap (λ b. if b then x ∷ m ∷ ms else (if x == m then m ∷ ms else m ∷ insert_rising x ms)) lt ∙ ap (λ b. if b then m ∷ ms else m ∷ insert_rising x ms) eq)

-- a number that stands there already is not put in again
pub put_again : (xs : List ℕ) (i x : ℕ) → IsStrictlySortedBy nat_cmp xs → i < length xs → get_or xs i 0 ≡ x → xs ≡ insert_rising x xs
put_again [] i x sorted within at = absurd (omega (arith, within))
put_again (m ∷ ms) zero x sorted within at =
    let lt : nat_lt x m ≡ false = grind (arith, nat_tests) in
    let eq : (x == m) ≡ true = grind (arith, nat_tests) in
    sym (ap (λ b. if b then x ∷ m ∷ ms else (if x == m then m ∷ ms else m ∷ insert_rising x ms)) lt ∙ ap (λ b. if b then m ∷ ms else m ∷ insert_rising x ms) eq)
put_again (m ∷ ms) (suc i) x sorted within at =
    let less : m < get_or ms i 0 = below_from_sorted (m ∷ ms) zero (suc i) 0 sorted (omega arith) within in
    let first : m < x = omega (arith, less, at) in
    let lt : nat_lt x m ≡ false = grind (arith, nat_tests) in
    let eq : (x == m) ≡ false = grind (arith, nat_tests) in
    ap (λ ns. m ∷ ns) (put_again ms i x (sorted_tail nat_cmp m ms sorted) (omega (arith, within)) at)
    ∙ sym (ap (λ b. if b then x ∷ m ∷ ms else (if x == m then m ∷ ms else m ∷ insert_rising x ms)) lt ∙ ap (λ b. if b then m ∷ ms else m ∷ insert_rising x ms) eq)

-- a search in numbers that stand in a list found none: put in where it ended, the number is put in rising order
pub put_searched : (xs ys : List ℕ) (x i : ℕ) → ys ≡ xs → IsStrictlySortedBy nat_cmp xs → IsBinarySearchResult (λ y. nat_cmp y x) ys (Err i) → insert xs i x ≡ insert_rising x xs
put_searched xs ys x i is sorted found =
    let here : IsBinarySearchResult (λ y. nat_cmp y x) xs (Err i) = subst (λ (zs : List ℕ). IsBinarySearchResult (λ y. nat_cmp y x) zs (Err i)) is found in
    let h = searched xs x (Err i) here (λ i j le within. non_decreasing_from_sorted xs sorted i j 0 le within) in
    put_between xs i x h.0 h.1 h.2

-- the search found the number: it is not put in again
pub put_found : (xs ys : List ℕ) (x i : ℕ) → ys ≡ xs → IsStrictlySortedBy nat_cmp xs → IsBinarySearchResult (λ y. nat_cmp y x) ys (Ok i) → xs ≡ insert_rising x xs
put_found xs ys x i is sorted found =
    let here : IsBinarySearchResult (λ y. nat_cmp y x) xs (Ok i) = subst (λ (zs : List ℕ). IsBinarySearchResult (λ y. nat_cmp y x) zs (Ok i)) is found in
    let h = searched xs x (Ok i) here (λ i j le within. non_decreasing_from_sorted xs sorted i j 0 le within) in
    put_again xs i x sorted h.0 h.1
