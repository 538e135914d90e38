-- The first of a piece are the first of all.
use Rattle.std.proofs.Common.{◌≡◌, ℕ, ◌≤◌, ◌<◌, zero, suc, List, [], ◌∷◌, Option, Result, Ok, Err, refl, ap, sym, subst, ◌∙◌, take, length, arith}
use Rattle.std.proofs.lemmas.List.{take_all}
use Rattle.std.specs.Result.{IfOk}
use Rattle.pk_outside.specs.Streams.{Got, WriteGot}

-- as many of the first of a prefix as it has
pub take_of_front : {A : Type 0} (n m : ℕ) (xs : List A) → n ≤ length (take m xs) → take n (take m xs) ≡ take n xs
take_of_front zero m xs h = refl
take_of_front (suc n) zero xs h = absurd (omega (arith, h))
take_of_front (suc n) (suc m) [] h = refl
take_of_front (suc n) (suc m) (x ∷ xs) h = ap (λ ys. x ∷ ys) (take_of_front n m xs (omega (arith, h)))

-- a prefix has no more than all
pub front_short : {A : Type 0} (m : ℕ) (xs : List A) → length (take m xs) ≤ length xs
front_short zero xs = omega arith
front_short (suc m) [] = omega arith
front_short (suc m) (x ∷ xs) = let h = front_short m xs in omega (arith, h)

-- a write of a prefix is one of all
pub write_bound : {E : Type 0} (r : Result ℕ E) (m : ℕ) (xs piece : List ℕ) → piece ≡ take m xs → IfOk r (λ n. (0 < n) × (n ≤ length piece)) → IfOk r (λ n. (0 < n) × (n ≤ length xs))
write_bound (Ok n) m xs piece is bound =
    let same : length piece ≡ length (take m xs) = ap (λ (l : List ℕ). length l) is in
    let short : length (take m xs) ≤ length xs = front_short m xs in (bound.0, omega (arith, bound.1, same, short))
write_bound (Err e) m xs piece is bound = bound

-- what it got of a prefix it got of all
pub write_got : {E : Type 0} (a b : Option (List ℕ)) (r : Result ℕ E) (m : ℕ) (xs piece : List ℕ) → piece ≡ take m xs → IfOk r (λ n. (0 < n) × (n ≤ length piece)) → WriteGot a b r piece → WriteGot a b r xs
write_got a b (Ok n) m xs piece is bound got =
    subst (Got a b) (ap (take n) is ∙ take_of_front n m xs (subst (λ (l : List ℕ). n ≤ length l) is bound.1)) got
write_got a b (Err e) m xs piece is bound got = got

-- a prefix of no fewer than all is all
pub short_front : {A : Type 0} (m : ℕ) (xs : List A) → length xs ≤ m → xs ≡ take m xs
short_front m xs h = sym (take_all m xs h)
