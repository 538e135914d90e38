-- How many faults the objects of a station counted, the path and the user of a door, and what they
-- tell of their content: nothing.
use Rattle.std.specs.Prelude.{ℕ, List, Option, None}
use Rattle.std.specs.Arc.{arc_value}
use Rattle.pk_outside.specs.Doors.{DoorTold}
use Rattle.pk_outside.specs.Stations.{StationTold}
use Rattle.real_outside.specs.declared.door.SocketDoor.{SocketDoor}
use Rattle.real_outside.specs.declared.socket.SocketSource.{SocketSource}
use Rattle.real_outside.specs.declared.socket.SocketSink.{SocketSink}
use Rattle.real_outside.specs.declared.station.SocketStation.{SocketStation}

abbrev pub source_faults : SocketSource → ℕ
source_faults source = source.faults

abbrev pub sink_faults : SocketSink → ℕ
sink_faults sink = sink.faults

abbrev pub station_faults : {R S L F D : Type 0} → SocketStation R S L F D → ℕ
station_faults station = station.faults

abbrev pub door_path : {R : Type 0} → SocketDoor R → List ℕ
door_path door = (arc_value door.listening).path

abbrev pub door_owner : {R : Type 0} → SocketDoor R → ℕ
door_owner door = door.uid

abbrev pub door_faults : {R : Type 0} → SocketDoor R → ℕ
door_faults door = door.faults

-- A door of the system tells nothing.
abbrev pub door_told : {R : Type 0} → SocketDoor R → Option DoorTold
door_told door = None

-- A station of the system tells nothing.
abbrev pub station_told : {R S L F D : Type 0} → SocketStation R S L F D → Option StationTold
station_told station = None
