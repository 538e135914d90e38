-- The order of files that a listing has is the one that sorts them.
use Rattle.std.proofs.Common.{◌≡◌, ℕ, zero, suc, ◌+◌, ◌<◌, Bool, true, false, List, [], ◌∷◌, length, get_or, map, refl, ap, sym, ◌∙◌, subst, arith, add-one}
use Rattle.std.specs.Prelude.{if◌then◌else◌}
use Rattle.std.specs.Cmp.{IsTotalOrder}
use Rattle.std.specs.List.Sorted.{IsPermutation, IsSorted}
use Rattle.std.specs.Ordering.{is_lt, ordering_reverse}
use Rattle.std.specs.declared.cmp.Ordering.{Ordering}
use Rattle.std.specs.declared.cmp.Ordering.TheVariants.{Less, Equal, Greater}
use Rattle.std.proofs.lemmas.List.Sorted.{IsPermutation-refl, IsPermutation-cons, IsPermutation-trans, IsPermutation-sym, IsPermutation-middle}
use Rattle.pkla_files.specs.Orders.{IsFileOrder, compare_files, all_files}
use Rattle.pkla_files.specs.declared.directories.Dir.{Dir}
use Rattle.pkla_files.specs.declared.directories.FilePlace.{FilePlace}
use Rattle.pkla_files.proofs.OneSorted.{sorted_rest, one_sorted}
use Rattle.pkla_files.proofs.Comparing.{files_total, files_same}
use Rattle.policy_load.specs.Orders.{put, in_order, file_order}

-- an item in front of those that it is not behind
sorted_cons : {X : Type 0} (R : X → X → Ordering) (x y : X) (ys : List X) → is_lt (R y x) ≡ false → IsSorted R (y ∷ ys) → IsSorted R (x ∷ y ∷ ys)
sorted_cons {X = X} R x y ys first up = λ k d low high. at k d high
  where
    at : (k : ℕ) (d : X) → k + 1 < length (x ∷ y ∷ ys) → is_lt (R (get_or (x ∷ y ∷ ys) (k + 1) d) (get_or (x ∷ y ∷ ys) k d)) ≡ false
    at zero d high = first
    at (suc k) d high =
        subst (λ n. is_lt (R (get_or (x ∷ y ∷ ys) n d) (get_or (y ∷ ys) k d)) ≡ false) (sym (add-one (suc k)))
        (subst (λ n. is_lt (R (get_or (y ∷ ys) n d) (get_or (y ∷ ys) k d)) ≡ false) (add-one k) (up k d (omega arith) (omega arith)))

sorted_one : {X : Type 0} (R : X → X → Ordering) (x : X) → IsSorted R (x ∷ [])
sorted_one R x = λ k d low high. absurd (omega arith)

sorted_first : {X : Type 0} (R : X → X → Ordering) (x y : X) (ys : List X) → IsSorted R (x ∷ y ∷ ys) → is_lt (R y x) ≡ false
sorted_first R x y ys up = up 0 x (omega arith) (omega arith)

-- of two, one is not less
not_both : {X : Type 0} (R : X → X → Ordering) → IsTotalOrder R → (x y : X) → is_lt (R y x) ≡ true → is_lt (R x y) ≡ false
not_both R o x y less = of (R x y) (R y x) (o.antisymm x y) less
  where
    of : (r s : Ordering) → r ≡ ordering_reverse s → is_lt s ≡ true → is_lt r ≡ false
    of r Less e less = ap is_lt e
    of r Equal e less = absurd (cc)
    of r Greater e less = absurd (cc)

-- an item that is put in front of a list that another item may stand before
sorted_under : {X : Type 0} (R : X → X → Ordering) (x y : X) (ys : List X) → is_lt (R x y) ≡ false → IsSorted R (y ∷ ys) → IsSorted R (put R x ys) → IsSorted R (y ∷ put R x ys)
sorted_under R x y [] first up put_up = sorted_cons R y x [] first put_up
sorted_under {X = X} R x y (z ∷ zs) first up put_up = of (is_lt (R z x)) put_up
  where
    of : (t : Bool) → IsSorted R (if t then z ∷ put R x zs else x ∷ z ∷ zs) → IsSorted R (y ∷ (if t then z ∷ put R x zs else x ∷ z ∷ zs))
    of true put_up = sorted_cons R y z (put R x zs) (sorted_first R y z zs up) put_up
    of false put_up = sorted_cons R y x (z ∷ zs) first put_up

sorted_put : {X : Type 0} (R : X → X → Ordering) → IsTotalOrder R → (x : X) (xs : List X) → IsSorted R xs → IsSorted R (put R x xs)
sorted_put R o x [] up = sorted_one R x
sorted_put R o x (y ∷ ys) up = of (is_lt (R y x)) refl (sorted_put R o x ys (sorted_rest R y ys up))
  where
    of : (t : Bool) → is_lt (R y x) ≡ t → IsSorted R (put R x ys) → IsSorted R (if t then y ∷ put R x ys else x ∷ y ∷ ys)
    of true less put_up = sorted_under R x y ys (not_both R o x y less) up put_up
    of false less put_up = sorted_cons R x y ys less up

sorted_in_order : {X : Type 0} (R : X → X → Ordering) → IsTotalOrder R → (xs : List X) → IsSorted R (in_order R xs)
sorted_in_order R o [] = λ k d low high. absurd (omega arith)
sorted_in_order R o (x ∷ xs) = sorted_put R o x (in_order R xs) (sorted_in_order R o xs)

each_put : {X : Type 0} (R : X → X → Ordering) (x : X) (xs : List X) → IsPermutation (x ∷ xs) (put R x xs)
each_put R x [] = IsPermutation-refl (x ∷ [])
each_put R x (y ∷ ys) = of (is_lt (R y x)) (each_put R x ys)
  where
    of : (t : Bool) → IsPermutation (x ∷ ys) (put R x ys) → IsPermutation (x ∷ y ∷ ys) (if t then y ∷ put R x ys else x ∷ y ∷ ys)
    of true each = IsPermutation-trans _ _ _ (IsPermutation-sym _ _ (IsPermutation-middle (y ∷ []) x ys)) (IsPermutation-cons y _ _ each)
    of false each = IsPermutation-refl (x ∷ y ∷ ys)

each_in_order : {X : Type 0} (R : X → X → Ordering) (xs : List X) → IsPermutation xs (in_order R xs)
each_in_order R [] = IsPermutation-refl []
each_in_order R (x ∷ xs) = IsPermutation-trans _ _ _ (IsPermutation-cons x _ _ (each_in_order R xs)) (each_put R x (in_order R xs))

-- the order in which the files of directories are evaluated is this list
pub order_is : (dirs : List Dir) (order : List FilePlace) → IsFileOrder dirs order → order ≡ file_order dirs
order_is dirs order is =
    is.places
    ∙ ap (map (λ f. f.place)) (one_sorted compare_files files_total files_same (all_files dirs) is.files (in_order compare_files (all_files dirs)) is.each_once (each_in_order compare_files (all_files dirs)) is.ascending (sorted_in_order compare_files files_total (all_files dirs)))
