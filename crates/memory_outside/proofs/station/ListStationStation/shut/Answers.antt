use Rattle.std.proofs.Common.{◌∙◌, ◌++◌, List, [], ◌∷◌, ap, refl}
use Rattle.std.specs.Prelude.{map}
use Rattle.std.proofs.lemmas.List.{map-append}
use Rattle.pk_outside.specs.Stations.{DoorBack}
use Rattle.memory_outside.specs.HeldClock.{clock_gave, salt_gave}
use Rattle.memory_outside.specs.HeldDoor.{door_told, door_back}
use Rattle.memory_outside.specs.HeldStation.{station_told}
use Rattle.memory_outside.proofs.station.ListStationStation.shut.Goals as goal

pub returns-clause-shut : goal.returns-clause-shut
returns-clause-shut c = (
  record { door = door_told c.args.door; readings = clock_gave c.args.clock; words = salt_gave c.args.salt },
  refl,
  refl,
  refl,
  ap station_told c.count_fault_where.ensures.others
      ∙ ap (λ (all : List DoorBack). record (station_told c.args.self.now) { shut = all })
      (ap (map door_back) c.keep.ensures.items
      ∙ map-append door_back c.args.self.now.shut (c.come_back-door.result.0 ∷ [])
      ∙ ap (λ (back : DoorBack). map door_back c.args.self.now.shut ++ back ∷ []) c.come_back-door.ensures.tells),
)
