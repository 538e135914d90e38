-- The places of the rules that pass a test, one rule more at the end.
use Rattle.std.proofs.Common.{◌≡◌, ℕ, ◌+◌, ◌<◌, ◌≤◌, ◌==◌, Bool, true, false, ◌||◌, List, [], ◌∷◌, ◌++◌, length, take, get_or, Some, slice_get, suc, ◌-◌, refl, sym, ap, subst, ◌∙◌, arith, append-nil}
use Rattle.std.specs.Prelude.{if◌then◌else◌}
use Rattle.std.proofs.lemmas.Bool.{ne_eqb, eq-eqb}
use Rattle.std.proofs.lemmas.List.{take_more, length-take-le}
use Rattle.authority_model.specs.declared.policy.RuleEntry.{RuleEntry}
use Rattle.authority_model.specs.Lists.{any_of, Each}
use Rattle.rulebook.specs.Indexes.{places_from, ends_with, add_place, add_where}

or_false : (b : Bool) → (b || false) ≡ b
or_false true = refl
or_false false = refl

or_assoc : (a b c : Bool) → (a || (b || c)) ≡ ((a || b) || c)
or_assoc true b c = refl
or_assoc false b c = refl

-- one more passes
more_any : {A : Type 0} (test : A → Bool) (ys : List A) (x : A) → any_of test (ys ++ x ∷ []) ≡ (any_of test ys || test x)
more_any test [] x = or_false (test x)
more_any test (y ∷ ys) x = ap (λ b. test y || b) (more_any test ys x) ∙ or_assoc (test y) (any_of test ys) (test x)

each_more : {A : Type 0} (P : A → Type 0) (ys : List A) (x : A) → Each P ys → P x → Each P (ys ++ x ∷ [])
each_more P [] x so_far here = (here, tt)
each_more P (y ∷ ys) x so_far here = (so_far.0, each_more P ys x so_far.1 here)

-- whether one of the first `j` passes, where the `j`-th is at `i`
pub any-take : {A : Type 0} (test : A → Bool) (xs : List A) (i j : ℕ) (x : A) → j ≡ i + 1 → i < length xs → x ≡ get_or xs i x
    → any_of test (take j xs) ≡ (any_of test (take i xs) || test x)
any-take test xs i j x next within is =
    ap (λ k. any_of test (take k xs)) next ∙ ap (any_of test) (take_more xs i x within ∙ ap (λ y. take i xs ++ y ∷ []) (sym is)) ∙ more_any test (take i xs) x

-- each of the first `j` has it, where the `j`-th is at `i`
pub each-take : {A : Type 0} (P : A → Type 0) (xs : List A) (i j : ℕ) (x : A) → j ≡ i + 1 → i < length xs → x ≡ get_or xs i x
    → Each P (take i xs) → P x → Each P (take j xs)
each-take {A = A} P xs i j x next within is so_far here =
    let M : List A → Type 0 = λ ys. Each P ys in
    subst M (sym (ap (λ k. take k xs) next ∙ take_more xs i x within ∙ ap (λ y. take i xs ++ y ∷ []) (sym is))) (each_more P (take i xs) x so_far here)

same_place : (p : ℕ) → (p == p) ≡ true
same_place p = eq-eqb p p refl

-- a place that went last is the last
ends_more : (ps : List ℕ) (p : ℕ) → ends_with (ps ++ p ∷ []) p ≡ true
ends_more [] p = same_place p
ends_more (x ∷ []) p = same_place p
ends_more (x ∷ y ∷ ps) p = ends_more (y ∷ ps) p

ends_either : (b : Bool) (ps : List ℕ) (p : ℕ) → ends_with ps p ≡ b → ends_with (if b then ps else ps ++ p ∷ []) p ≡ true
ends_either true ps p is = is
ends_either false ps p is = ends_more ps p

-- a place goes last once
twice : (ps : List ℕ) (p : ℕ) → add_place (add_place ps p) p ≡ add_place ps p
twice ps p = ap (λ b. if b then add_place ps p else add_place ps p ++ p ∷ []) (ends_either (ends_with ps p) ps p refl)

-- where one of two tests holds
pub add-either : (a b : Bool) (ps : List ℕ) (p : ℕ) → add_where b (add_where a ps p) p ≡ add_where (a || b) ps p
add-either false b ps p = refl
add-either true false ps p = refl
add-either true true ps p = twice ps p

-- one of the first `j` passes, where the `j`-th is at `i`, and the place goes last for each that passes
pub add-take : {A : Type 0} (test : A → Bool) (xs : List A) (i j : ℕ) (x : A) (ps : List ℕ) (p : ℕ) → j ≡ i + 1 → i < length xs → x ≡ get_or xs i x
    → add_where (test x) (add_where (any_of test (take i xs)) ps p) p ≡ add_where (any_of test (take j xs)) ps p
add-take test xs i j x ps p next within is = add-either (any_of test (take i xs)) (test x) ps p ∙ ap (λ b. add_where b ps p) (sym (any-take test xs i j x next within is))

if_more : (b : Bool) (n : ℕ) (xs ys : List ℕ) → (if b then n ∷ (xs ++ ys) else xs ++ ys) ≡ (if b then n ∷ xs else xs) ++ ys
if_more true n xs ys = refl
if_more false n xs ys = refl

one_place : (b : Bool) (n p : ℕ) → n ≡ p → (if b then n ∷ [] else []) ≡ (if b then p ∷ [] else [])
one_place b n p is = ap (λ k. if b then k ∷ [] else []) is

-- the places with one rule more
more_places : (n : ℕ) (test : RuleEntry → Bool) (es : List RuleEntry) (e : RuleEntry) (p : ℕ) → n + length es ≡ p
    → places_from n test (es ++ e ∷ []) ≡ places_from n test es ++ (if test e then p ∷ [] else [])
more_places n test [] e p is = one_place (test e) n p (omega arith)
more_places n test (x ∷ es) e p is =
    ap (λ ps. if test x then n ∷ ps else ps) (more_places (n + 1) test es e p (omega arith))
    ∙ if_more (test x) n (places_from (n + 1) test es) (if test e then p ∷ [] else [])

each_if : (b : Bool) (P : ℕ → Type 0) (n : ℕ) (ps : List ℕ) → P n → Each P ps → Each P (if b then n ∷ ps else ps)
each_if true P n ps here rest = (here, rest)
each_if false P n ps here rest = rest

-- each place is below that of the next rule
below : (n : ℕ) (test : RuleEntry → Bool) (es : List RuleEntry) (p : ℕ) → n + length es ≤ p → Each (λ k. k < p) (places_from n test es)
below n test [] p le = tt
below n test (e ∷ es) p le = each_if (test e) (λ k. k < p) n (places_from (n + 1) test es) (omega arith) (below (n + 1) test es p (omega arith))

ends_other : (ps : List ℕ) (p : ℕ) → Each (λ k. k < p) ps → ends_with ps p ≡ false
ends_other [] p low = refl
ends_other (x ∷ []) p low = let lt : x < p = low.0 in ne_eqb x p (λ is. omega arith)
ends_other (x ∷ y ∷ ps) p low = ends_other (y ∷ ps) p low.1

new_place : (b : Bool) (ps : List ℕ) (p : ℕ) → ends_with ps p ≡ false → add_where b ps p ≡ ps ++ (if b then p ∷ [] else [])
new_place true ps p other = ap (λ t. if t then ps else ps ++ p ∷ []) other
new_place false ps p other = sym (append-nil ps)

-- the places of those of the first `j` that pass, where the `j`-th is at `i`: its place goes last where it passes
pub places-take : (test : RuleEntry → Bool) (es : List RuleEntry) (i j p : ℕ) (e : RuleEntry) → j ≡ i + 1 → i < length es → e ≡ get_or es i e → p ≡ i
    → add_where (test e) (places_from 0 test (take i es)) p ≡ places_from 0 test (take j es)
places-take test es i j p e next within is place =
    let len : 0 + length (take i es) ≡ p = omega (arith, length-take-le i es (omega arith)) in
    new_place (test e) (places_from 0 test (take i es)) p (ends_other (places_from 0 test (take i es)) p (below 0 test (take i es) p (omega arith)))
    ∙ sym (more_places 0 test (take i es) e p len)
    ∙ ap (places_from 0 test) (sym (ap (λ k. take k es) next ∙ take_more es i e within ∙ ap (λ y. take i es ++ y ∷ []) (sym is)))

-- the last of some places
pub ends-last : (ps : List ℕ) (p x : ℕ) → Some x ≡ slice_get ps (length ps - 1) → (x == p) ≡ ends_with ps p
ends-last [] p x is = absurd (cc)
ends-last (y ∷ []) p x is = let same : x ≡ y = cc in ap (λ n. n == p) same
ends-last (y ∷ z ∷ ps) p x is =
    let end : length (y ∷ z ∷ ps) - 1 ≡ suc (length ps) = omega arith in
    let rest : length ps ≡ length (z ∷ ps) - 1 = omega arith in
    ends-last (z ∷ ps) p x (is ∙ ap (slice_get (y ∷ z ∷ ps)) end ∙ ap (slice_get (z ∷ ps)) rest)
