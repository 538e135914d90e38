use Rattle.std.proofs.Common.{◌≡◌, ℕ, zero, suc, ◌+◌, ◌-◌, ◌<◌, ◌≤◌, List, [], ◌∷◌, length, get_or, drop, true, false, Some, refl, sym, ap, add-one, subst, ◌∙◌, arith, inl, inr, ◌⊎◌, ◌≢◌}
use Rattle.std.proofs.Math.ListN.{set, replicate, length-set}
use Rattle.std.proofs.lemmas.Bool.{cases_eq}
use Rattle.std.proofs.lemmas.List.{get_or-set_other, get_or-set_same, get_or-replicate, length-replicate, length-map, length-reverse, length-take, reverse-append, take_more, take_more_set}
use Rattle.dbus_values.specs.declared.frames.Frame.{Frame}
use Rattle.dbus_values.specs.Opened.{Open, opened, innermost, outer, is_variant, is_structure, with_members, seen, IsWithin, AllWithin}
use Rattle.dbus_values.specs.Opened as open_part

pub length-seen : (n : ℕ) (xs : List Frame) → n ≤ length xs → length (seen n xs) ≡ n
length-seen n xs le = simp (length-map, length-reverse) (omega (arith, length-take n xs))

pub seen_more : (n : ℕ) (xs : List Frame) (d : Frame) → n < length xs → seen (n + 1) xs ≡ opened (get_or xs n d) ∷ seen n xs
seen_more n xs d lt = rw (take_more xs n d lt, reverse-append) refl

pub seen_set : (n : ℕ) (xs : List Frame) (f : Frame) → n < length xs → seen (n + 1) (set xs n f) ≡ opened f ∷ seen n xs
seen_set n xs f lt = rw (take_more_set xs n f lt, reverse-append) refl

pub seen_less : (n : ℕ) (xs : List Frame) → 0 < n → n ≤ length xs → seen (n - 1) xs ≡ outer (seen n xs)
seen_less n [] pos le = absurd (omega arith)
seen_less n (x ∷ xs) pos le =
    let k : n - 1 + 1 ≡ n = omega arith in
    let e = seen_more (n - 1) (x ∷ xs) x (omega arith) in
    let f : seen n (x ∷ xs) ≡ opened (get_or (x ∷ xs) (n - 1) x) ∷ seen (n - 1) (x ∷ xs) = subst (λ (m : ℕ). seen m (x ∷ xs) ≡ opened (get_or (x ∷ xs) (n - 1) x) ∷ seen (n - 1) (x ∷ xs)) k e in
    rw f refl

pub seen_top : (n : ℕ) (xs : List Frame) (d : Frame) → 0 < n → n ≤ length xs → Some (opened (get_or xs (n - 1) d)) ≡ innermost (seen n xs)
seen_top n xs d pos le =
    let k : n - 1 + 1 ≡ n = omega arith in
    let e = seen_more (n - 1) xs d (omega arith) in
    let f : seen n xs ≡ opened (get_or xs (n - 1) d) ∷ seen (n - 1) xs = subst (λ (m : ℕ). seen m xs ≡ opened (get_or xs (n - 1) d) ∷ seen (n - 1) xs) k e in
    rw f refl

-- the one around the innermost
pub seen_below : (n : ℕ) (xs : List Frame) (d : Frame) → 1 < n → n ≤ length xs → Some (opened (get_or xs (n - 2) d)) ≡ innermost (outer (seen n xs))
seen_below n xs d two le =
    let k : n - 1 - 1 ≡ n - 2 = omega arith in
    let e : Some (opened (get_or xs (n - 1 - 1) d)) ≡ innermost (seen (n - 1) xs) = seen_top (n - 1) xs d (omega arith) (omega arith) in
    rw (← seen_less n xs (omega arith) le, ← k) e

pub seen_one : (n : ℕ) (xs : List Frame) → n ≤ 1 → n ≤ length xs → false ≡ is_variant (innermost (outer (seen n xs)))
seen_one n xs one le = go (seen n xs) (length-seen n xs le) where
  go : (fs : List Open) → length fs ≡ n → false ≡ is_variant (innermost (outer fs))
  go [] is = refl
  go (f ∷ []) is = refl
  go (f ∷ g ∷ fs) is = absurd (omega (arith, is))

pub within_new : (n : ℕ) (f : Frame) → IsWithin f → AllWithin (replicate n f)
within_new n f h i d lt = subst IsWithin (sym (get_or-replicate n i f d (omega (arith, length-replicate n f)))) h

pub within_set : (xs : List Frame) (n : ℕ) (f : Frame) → AllWithin xs → n < length xs → IsWithin f → AllWithin (set xs n f)
within_set xs n f all lt h i d small = go (cases_eq i n) where
  go : (i ≡ n) ⊎ (i ≢ n) → IsWithin (get_or (set xs n f) i d)
  go (inl e) = subst IsWithin (sym (ap (λ (k : ℕ). get_or (set xs n f) k d) e ∙ get_or-set_same xs n f d lt)) h
  go (inr ne) = subst IsWithin (sym (get_or-set_other xs n i f d ne)) (all i d (omega (arith, length-set xs n f)))

-- what is a structure
pub structure_is : (o : Open) → is_structure (Some o) ≡ true → o ≡ open_part.Members
structure_is (open_part.Items a b c d) is = absurd cc
structure_is open_part.Members is = refl
structure_is open_part.Key is = absurd cc
structure_is open_part.Value is = absurd cc
structure_is open_part.Closing is = absurd cc
structure_is (open_part.Inner a) is = absurd cc

pub with_one_more : (n : ℕ) (fs : List Open) → with_members (n + 1) fs ≡ open_part.Members ∷ with_members n fs
unfolding with_members
with_one_more zero fs = refl
with_one_more (suc n) fs = let k : suc n + 1 ≡ suc (n + 1) = omega arith in rw k (with_one_more n (open_part.Members ∷ fs))

pub with_none : (fs : List Open) → with_members 0 fs ≡ fs
unfolding with_members
with_none fs = refl

pub with_more : (n : ℕ) (fs : List Open) → with_members (n + 1) fs ≡ with_members n (open_part.Members ∷ fs)
unfolding with_members
with_more n fs = rw add-one refl

-- one more place that holds a structure
pub members_set : (from i : ℕ) (xs : List Frame) (f : Frame) (fs : List Open) → opened f ≡ open_part.Members → from + i < length xs → seen (from + i) xs ≡ with_members i fs → seen (from + (i + 1)) (set xs (from + i) f) ≡ with_members (i + 1) fs
members_set from i xs f fs is lt so_far =
    let k : from + (i + 1) ≡ from + i + 1 = omega arith in
    rw (k, seen_set (from + i) xs f lt, is, so_far, with_one_more i fs) refl

pub members_kept : (from i : ℕ) (xs : List Frame) (d : Frame) (fs : List Open) → opened (get_or xs (from + i) d) ≡ open_part.Members → from + i < length xs → seen (from + i) xs ≡ with_members i fs → seen (from + (i + 1)) xs ≡ with_members (i + 1) fs
members_kept from i xs d fs is lt so_far =
    let k : from + (i + 1) ≡ from + i + 1 = omega arith in
    rw (k, seen_more (from + i) xs d lt, is, so_far, with_one_more i fs) refl

-- one place less, which holds a structure
pub members_off : (n i : ℕ) (xs : List Frame) (d : Frame) → opened (get_or xs (n - 1 - i) d) ≡ open_part.Members → i < n → n ≤ length xs → seen n xs ≡ with_members i (seen (n - i) xs) → seen n xs ≡ with_members (i + 1) (seen (n - (i + 1)) xs)
members_off n i xs d is lt le so_far =
    let k : n - i ≡ n - 1 - i + 1 = omega arith in
    let l : n - 1 - i ≡ n - (i + 1) = omega arith in
    let top : seen (n - i) xs ≡ open_part.Members ∷ seen (n - (i + 1)) xs = rw (k, seen_more (n - 1 - i) xs d (omega arith), is, l) refl in
    so_far ∙ rw (top, with_more i (seen (n - (i + 1)) xs)) refl

drop_outer : (n : ℕ) (fs : List Open) → drop (suc n) fs ≡ drop n (outer fs)
drop_outer zero [] = refl
drop_outer (suc n) [] = refl
drop_outer n (f ∷ fs) = refl

-- so many places less
pub seen_drop : (k n : ℕ) (xs : List Frame) → k ≤ n → n ≤ length xs → seen (n - k) xs ≡ drop k (seen n xs)
seen_drop zero n xs small le = let e : n - 0 ≡ n = omega arith in rw e refl
seen_drop (suc k) n xs small le =
    let e : n - suc k ≡ n - 1 - k = omega arith in
    rw (e, seen_drop k (n - 1) xs (omega arith) (omega arith), drop_outer k (seen n xs), ← seen_less n xs (omega arith) le) refl

pub members_drop : (k n : ℕ) (xs : List Frame) → k ≤ n → n ≤ length xs → seen n xs ≡ with_members k (seen (n - k) xs) → seen n xs ≡ with_members k (drop k (seen n xs))
members_drop k n xs small le is = is ∙ ap (λ (fs : List Open). with_members k fs) (seen_drop k n xs small le)

-- no variant is around so many
pub plain_around : (k n : ℕ) (xs : List Frame) (d : Frame) → k < n → n ≤ length xs → is_variant (Some (opened (get_or xs (n - 1 - k) d))) ≡ false → is_variant (innermost (drop k (seen n xs))) ≡ false
plain_around k n xs d small le plain =
    let e : n - 1 - k ≡ n - k - 1 = omega arith in
    let top : Some (opened (get_or xs (n - k - 1) d)) ≡ innermost (seen (n - k) xs) = seen_top (n - k) xs d (omega arith) (omega arith) in
    rw (← seen_drop k n xs (omega arith) le, ← top, ← e) plain

pub none_around : (k n : ℕ) (xs : List Frame) → k ≡ n → n ≤ length xs → is_variant (innermost (drop k (seen n xs))) ≡ false
none_around k n xs same le =
    let e : n - k ≡ 0 = omega (arith, same) in
    rw (← seen_drop k n xs (omega (arith, same)) le, e) refl
