-- What the doors in memory hold, and what is told of one that was shut.
use Rattle.std.specs.Prelude.{ℕ, map}
use Rattle.memory_outside.specs.Memory.{Counted}
use Rattle.pk_outside.specs.Doors.{DoorTold}
use Rattle.pk_outside.specs.Stations.{DoorBack}
use Rattle.memory_outside.specs.HeldClock.{clock_gave, salt_gave}
use Rattle.memory_outside.specs.HeldLink.{link_bytes, link_back}
use Rattle.memory_outside.specs.declared.door.ListDoor.{ListDoor}
use Rattle.memory_outside.specs.declared.door.ReturnedDoor.{ReturnedDoor}

-- The user that a door is for.
abbrev pub door_uid : ListDoor → ℕ
door_uid door = door.uid

-- The calls of a door.
abbrev pub door_calls : ListDoor → Counted
door_calls door = door.calls

-- What a door tells.
abbrev pub door_told : ListDoor → DoorTold
door_told door = record {
  uid = door.uid;
  path = door.path;
  slot = door.slot;
  taken = map link_back door.taken;
  left = map link_bytes door.links.items;
}

-- What is told of a door that was shut.
abbrev pub door_back : ReturnedDoor → DoorBack
door_back back = record {
  door = record {
    uid = back.uid;
    path = back.path;
    slot = back.slot;
    taken = map link_back back.links;
    left = map link_bytes back.left.items;
  };
  readings = clock_gave back.clock;
  words = salt_gave back.salt;
}
