-- Which door a slot has, and that it takes back each link that it gives.
use Rattle.std.specs.Prelude.{◌≡◌, ◌⊎◌, ◌++◌, [], ◌∷◌, ℕ, Bool, true, false, List, Option, Some, All, length, map, option_map}
use Rattle.pk_outside.specs.Doors.{DoorTold}
use Rattle.pk_outside.specs.declared.sights.Sighted.{Sighted}
use Rattle.pk_outside.specs.Stations.{DoorBack, StationTold, first_list, other_lists}

-- With what a door was made: its user, its path and its number there, and the bytes of all links that it gives.
pub record DoorMade : Type 0 where
  pub uid : ℕ
  pub path : List ℕ
  pub slot : ℕ
  pub links : List (List ℕ)

-- The door by the links that it took back and those that are left. A link that it gave and did not take back is not among them.
abbrev pub door_made : DoorTold → DoorMade
door_made door = record { uid = door.uid; path = door.path; slot = door.slot; links = map (λ link. link.given) door.taken ++ door.left }

-- The same where the door tells.
abbrev pub made_of : Option DoorTold → Option DoorMade
made_of told = option_map door_made told

-- the sightings that a station has left once one slot more was opened, whose connections look at processes or never do
abbrev pub sights_behind : Bool → List (List Sighted) → List (List Sighted)
sights_behind true sights = other_lists sights
sights_behind false sights = sights

-- A door was opened at a station, with a clock and a salt, and with looks at processes if it is live: it has these arguments and the next of the links. The station gave nothing else, and nothing came back to it.
pub record OpensDoor (uid : ℕ) (path : List ℕ) (slot : ℕ) (live : Bool) (before after : Option StationTold) (made : Option DoorMade) : Type 0 where
  pub where_told : (now : StationTold) → after ≡ Some now
      → (old : StationTold) × (before ≡ Some old)
      × (made ≡ Some (record { uid = uid; path = path; slot = slot; links = first_list old.doors }))
      × (now ≡ record old { doors = other_lists old.doors; clocks = other_lists old.clocks; salts = other_lists old.salts; sights = sights_behind live old.sights })

-- A door came back to a station, behind those before, and nothing else did: it is the one that this tells.
pub record ShutsDoor (before after : Option StationTold) (door : Option DoorTold) : Type 0 where
  pub where_told : (now : StationTold) → after ≡ Some now
      → (old : StationTold) × (before ≡ Some old) × (back : DoorBack)
      × (door ≡ Some back.door) × (now ≡ record old { shut = old.shut ++ back ∷ [] })

-- The door has no link left, or it took back as many as its slot was to serve.
abbrev pub IsDone : Option ℕ → DoorTold → Type 0
IsDone most door = (door.left ≡ []) ⊎ (most ≡ Some (length door.taken))

-- Each door that came back to a station, behind those before, is done.
pub record DoorsAreDone (most : Option ℕ) (before after : Option StationTold) : Type 0 where
  pub where_told : (now : StationTold) → after ≡ Some now
      → (old : StationTold) × (before ≡ Some old) × (backs : List DoorBack)
      × (now.shut ≡ old.shut ++ backs) × All (λ back. IsDone most back.door) backs
