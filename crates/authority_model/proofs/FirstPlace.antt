-- What stands before the first place at which a test passes.
use Rattle.std.proofs.Common.{◌≡◌, ℕ, ◌≤◌, Bool, true, false, cond, List, refl, ap, Some, None, length, take}
use Rattle.std.specs.Prelude.{position, nat_lt}
use Rattle.std.specs.List.{position_or_len, before_first}
use Rattle.std.proofs.lemmas.List.{take_all}
use borrow.Author.Tests.{ltb-false}

-- the first place cuts the list
pub before_first-Some : {X : Type 0} (p : X → Bool) (xs : List X) (i : ℕ) → position p xs ≡ Some i → before_first p xs ≡ take i xs
before_first-Some p xs i e = of (nat_lt (position_or_len p xs) (length xs)) e
  where
    of : (b : Bool) → cond b (Some (position_or_len p xs)) None ≡ Some i → before_first p xs ≡ take i xs
    of true e = let same : position_or_len p xs ≡ i = cc in ap (λ n. take n xs) same
    of false e = absurd (cc)

-- without one the list stays whole
pub before_first-None : {X : Type 0} (p : X → Bool) (xs : List X) → position p xs ≡ None → before_first p xs ≡ xs
before_first-None p xs e = of (nat_lt (position_or_len p xs) (length xs)) refl e
  where
    of : (b : Bool) → nat_lt (position_or_len p xs) (length xs) ≡ b → cond b (Some (position_or_len p xs)) None ≡ None → before_first p xs ≡ xs
    of true is e = absurd (cc)
    of false is e = let all : length xs ≤ position_or_len p xs = ltb-false (position_or_len p xs) (length xs) is in take_all (position_or_len p xs) xs all
