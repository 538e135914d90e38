-- The doors of all slots that were shut.
use Rattle.std.specs.Prelude.{◌≡◌, ◌++◌, List, Option, Some, map}
use Rattle.pk_outside.specs.Doors.{DoorTold}
use Rattle.pk_outside.specs.Stations.{DoorBack, StationTold}

-- Doors came back to a station, behind those before, in this order, and nothing else did: they are the ones that these tell.
pub record ShutsAll (before after : Option StationTold) (doors : List (Option DoorTold)) : Type 0 where
  pub where_told : (now : StationTold) → after ≡ Some now
      → (old : StationTold) × (before ≡ Some old) × (backs : List DoorBack)
      × (doors ≡ map (λ back. Some back.door) backs) × (now ≡ record old { shut = old.shut ++ backs })
