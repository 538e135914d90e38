-- What a door tells, and what its calls do to it.
use Rattle.std.specs.Prelude.{◌≡◌, ◌++◌, [], ◌∷◌, List, ℕ, Option, None, Some, Bool, true, false}
use Rattle.pk_outside.specs.Causes.{Rose}
use Rattle.pk_outside.specs.Links.{Origin, LinkBack}
use Rattle.pk_outside.specs.declared.door.Accepted.{Accepted}
use Rattle.pk_outside.specs.declared.door.Accepted.TheVariants as accepted

-- The arguments that a door was made with, the links that it took back, in this order, and those
-- that it will still give, each as its bytes.
pub record DoorTold : Type 0 where
  pub uid : ℕ
  pub path : List ℕ
  pub slot : ℕ
  pub taken : List LinkBack
  pub left : List (List ℕ)

-- The next of the links was given.
abbrev pub GivesLink : Option DoorTold → Option DoorTold → Option Origin → Type 0
GivesLink None None link = Unit {0}
GivesLink None (Some after) link = ⊥
GivesLink (Some before) None link = ⊥
GivesLink (Some before) (Some after) link =
    (given : Origin) × (link ≡ Some given) × (before ≡ record after { left = given.bytes ∷ after.left })

-- No link is left, where it is told.
abbrev pub IsEmptied : Option DoorTold → Type 0
IsEmptied None = Unit {0}
IsEmptied (Some door) = door.left ≡ []

-- What an answer of `accept` says of the links of the door: the next one, or that none is left. One
-- that is refused, and one in whose time no link came, leave them.
abbrev pub Accepts : {L : Type 0} → (L → Option Origin) → Option DoorTold → Option DoorTold → Accepted L → Type 0
Accepts origin before after (accepted.Link link) = GivesLink before after (origin link)
Accepts origin before after accepted.Closed = (after ≡ before) × IsEmptied before
Accepts origin before after accepted.Idle = after ≡ before
Accepts origin before after accepted.Failed = after ≡ before
Accepts origin before after accepted.NoMemory = after ≡ before

-- `Failed` comes only where the count rose, and any other answer leaves the count.
abbrev pub AcceptCause : {L : Type 0} → ℕ → ℕ → Accepted L → Type 0
AcceptCause before now (accepted.Link link) = now ≡ before
AcceptCause before now accepted.Closed = now ≡ before
AcceptCause before now accepted.Idle = now ≡ before
AcceptCause before now accepted.Failed = Rose before now
AcceptCause before now accepted.NoMemory = now ≡ before

-- A call of `accept` failed; want of memory is no failure of the door.
abbrev pub has_failed : {L : Type 0} → Accepted L → Bool
has_failed (accepted.Link link) = false
has_failed accepted.Closed = false
has_failed accepted.Idle = false
has_failed accepted.Failed = true
has_failed accepted.NoMemory = false

-- This link was taken back, behind those before.
abbrev pub TakesBack : Option DoorTold → Option DoorTold → (List ℕ → LinkBack → Type 0) → Type 0
TakesBack None None tells = Unit {0}
TakesBack None (Some after) tells = ⊥
TakesBack (Some before) None tells = ⊥
TakesBack (Some before) (Some after) tells =
    (path : List ℕ) × (link : LinkBack) × tells path link × (after ≡ record before { taken = before.taken ++ link ∷ [] })
