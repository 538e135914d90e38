-- Which doors the slots of a plan have, in their order.
use Rattle.std.specs.Prelude.{◌≡◌, ◌++◌, ◌/◌, ◌%◌, [], ◌∷◌, ℕ, Bool, true, false, zero, suc, List, Option, Some, map, slice_index_or}
use Rattle.pk_outside.specs.declared.sights.Sighted.{Sighted}
use Rattle.pk_outside.specs.Stations.{StationTold, first_list, other_lists}
use Rattle.command_line.specs.declared.door.DoorPath.{DoorPath}
use Rattle.service_slots.specs.Doors.{DoorMade}

-- what a station has left to give behind so many doors, clocks, salts or looks at processes
abbrev pub lists_behind : {A : Type 0} → List (List A) → ℕ → List (List A)
lists_behind lists zero = lists
lists_behind lists (suc k) = other_lists (lists_behind lists k)

-- The sightings that a station has left behind so many slots: each slot of live connections took one list of them, and no other slot took any.
abbrev pub sights_left : Bool → List (List Sighted) → ℕ → List (List Sighted)
sights_left true sights k = lists_behind sights k
sights_left false sights k = sights

-- a station that made so many doors, each with a clock and a salt, and with looks at processes if they are live, and nothing else
abbrev pub opened_behind : Bool → StationTold → ℕ → StationTold
opened_behind live old k = record old {
  doors = lists_behind old.doors k;
  clocks = lists_behind old.clocks k;
  salts = lists_behind old.salts k;
  sights = sights_left live old.sights k;
}

-- a path that no plan has
abbrev pub no_path : DoorPath
no_path = record { uid = 0; path = [] }

-- The door of the k-th slot, where each path has so many slots: the slots stand in the order of the paths and, for one path, by their numbers from 0. It has the k-th of the links that the station gives.
abbrev pub nth_door : List DoorPath → ℕ → List (List (List ℕ)) → ℕ → DoorMade
nth_door paths each links k = record {
  uid = (slice_index_or paths (k / each) no_path).uid;
  path = (slice_index_or paths (k / each) no_path).path;
  slot = k % each;
  links = first_list (lists_behind links k);
}

-- the doors of the first k slots
abbrev pub first_doors : List DoorPath → ℕ → List (List (List ℕ)) → ℕ → List DoorMade
first_doors paths each links zero = []
first_doors paths each links (suc k) = first_doors paths each links k ++ nth_door paths each links k ∷ []

-- The doors of the first k slots were made at a station, in their order, each with a clock and a salt, and with looks at processes if they are live, and nothing else; and nothing came back to it.
pub record OpensFirst (paths : List DoorPath) (each k : ℕ) (live : Bool) (before after : Option StationTold) (made : List (Option DoorMade)) : Type 0 where
  pub where_told : (now : StationTold) → after ≡ Some now
      → (old : StationTold) × (before ≡ Some old)
      × (made ≡ map (λ door. Some door) (first_doors paths each old.doors k))
      × (now ≡ opened_behind live old k)
