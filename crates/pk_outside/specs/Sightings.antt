-- What a look at a process tells, and which looks were taken.
use Rattle.std.specs.Prelude.{◌≡◌, ◌≤◌, ◌++◌, [], ◌∷◌, List, ℕ, Option, None, Some}
use Rattle.pk_outside.specs.Causes.{one_more}
use Rattle.pk_outside.specs.declared.sights.Sighted.{Sighted}
use Rattle.pk_outside.specs.declared.sights.Sighted.TheVariants as sighted

-- A process that was asked for, and the sighting that was given.
pub record Look : Type 0 where
  pub pid : ℕ
  pub sighted : Sighted

-- The next sighting was given: the first of those that are left, or `Gone` where none is.
abbrev pub GivesSighting : Option (List Sighted) → Option (List Sighted) → Sighted → Type 0
GivesSighting None None given = Unit {0}
GivesSighting None (Some after) given = ⊥
GivesSighting (Some before) None given = ⊥
GivesSighting (Some []) (Some after) given = (given ≡ sighted.Gone) × (after ≡ [])
GivesSighting (Some (next ∷ rest)) (Some after) given = (given ≡ next) × (after ≡ rest)

-- This process was asked for, and this sighting was given, after those before.
abbrev pub Looked : Option (List Look) → Option (List Look) → ℕ → Sighted → Type 0
Looked None None pid given = Unit {0}
Looked None (Some after) pid given = ⊥
Looked (Some before) None pid given = ⊥
Looked (Some before) (Some after) pid given = after ≡ before ++ record { pid = pid; sighted = given } ∷ []

-- `Failed` counts one fault, and another sighting leaves the count.
abbrev pub SightCause : ℕ → ℕ → Sighted → Type 0
SightCause before now (sighted.Alive start) = now ≡ before
SightCause before now sighted.Gone = now ≡ before
SightCause before now sighted.Failed = (before ≤ now) × (now ≡ one_more before)
