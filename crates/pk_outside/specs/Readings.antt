-- What a clock and a salt tell: the numbers that they will give.
use Rattle.std.specs.Prelude.{◌≡◌, [], ◌∷◌, List, ℕ, Option, None, Some}

-- The next number was given: the first of those that are left, or 0 where none is.
abbrev pub GivesNext : Option (List ℕ) → Option (List ℕ) → ℕ → Type 0
GivesNext None None number = Unit {0}
GivesNext None (Some after) number = ⊥
GivesNext (Some before) None number = ⊥
GivesNext (Some []) (Some after) number = (number ≡ 0) × (after ≡ [])
GivesNext (Some (next ∷ rest)) (Some after) number = (number ≡ next) × (after ≡ rest)
