-- What a door and a station that have nothing to give keep.
use Rattle.std.specs.Prelude.{ℕ}
use Rattle.memory_outside.specs.declared.empty_station.EmptyDoor.{EmptyDoor}
use Rattle.memory_outside.specs.declared.empty_station.EmptyStation.{EmptyStation}

-- The user that a door is for.
abbrev pub door_uid : EmptyDoor → ℕ
door_uid door = door.uid

-- How many faults a station counted.
abbrev pub station_faults : EmptyStation → ℕ
station_faults station = station.faults
