-- What was taken of a clock or of a salt.
use Rattle.std.specs.Prelude.{◌≡◌, ℕ, List, [], ◌∷◌, Option}
use Rattle.pk_outside.specs.Readings.{GivesNext}
use Rattle.pk_outside.specs.Streams.{Got}

-- what a clock or a salt tells: the numbers that it will give, and those that it gave
pub record Supply : Type 0 where
  pub left : Option (List ℕ)
  pub gave : Option (List ℕ)

abbrev pub supply : Option (List ℕ) → Option (List ℕ) → Supply
supply left gave = record { left = left; gave = gave }

-- these numbers were given one after another
abbrev pub GivesEach : Option (List ℕ) → Option (List ℕ) → List ℕ → Type 0
GivesEach before now [] = now ≡ before
GivesEach before now (number ∷ numbers) = (between : Option (List ℕ)) × GivesNext before between number × GivesEach between now numbers

-- these numbers were taken
pub record Took (before now : Supply) (numbers : List ℕ) : Type 0 where
  pub gives : GivesEach before.left now.left numbers
  pub got : Got before.gave now.gave numbers
