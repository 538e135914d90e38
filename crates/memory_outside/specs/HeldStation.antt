-- What the stations in memory hold.
use Rattle.std.specs.Prelude.{ℕ, List, [], map}
use Rattle.memory_outside.specs.Memory.{Counted}
use Rattle.pk_outside.specs.Stations.{StationTold}
use Rattle.memory_outside.specs.HeldLink.{link_bytes, link_hung}
use Rattle.memory_outside.specs.HeldDoor.{door_back}
use Rattle.memory_outside.specs.HeldFile.{file_back}
use Rattle.memory_outside.specs.declared.file.FilePlan.{FilePlan}
use Rattle.memory_outside.specs.declared.file.ReturnedFile.{ReturnedFile}
use Rattle.memory_outside.specs.declared.link.ReturnedLink.{ReturnedLink}
use Rattle.memory_outside.specs.declared.door.DoorPlan.{DoorPlan}
use Rattle.memory_outside.specs.declared.door.ReturnedDoor.{ReturnedDoor}
use Rattle.memory_outside.specs.declared.station.StationPlan.{StationPlan}
use Rattle.memory_outside.specs.declared.station.ListStation.{ListStation}

-- The links that a door will give, each as its bytes.
abbrev pub door_links : DoorPlan → List (List ℕ)
door_links plan = map link_bytes plan.links

-- The numbers of the calls of `accept` of a door that are to fail.
abbrev pub door_failing : DoorPlan → List ℕ
door_failing plan = plan.failing.items

-- What a station tells that begins with this plan.
abbrev pub plan_told : StationPlan → StationTold
plan_told plan = record {
  doors = map door_links plan.doors;
  links = map link_bytes plan.links;
  clocks = plan.clocks;
  salts = plan.salts;
  shut = [];
  hung = [];
  sights = plan.sights;
  made = [];
  filed = [];
}

-- What a station tells.
abbrev pub station_told : ListStation → StationTold
station_told station = record {
  doors = map door_links station.doors.items;
  links = map link_bytes station.links.items;
  clocks = station.clocks.items;
  salts = station.salts.items;
  shut = map door_back station.shut;
  hung = map link_hung station.hung;
  sights = station.sights.items;
  made = station.made;
  filed = map file_back station.filed;
}

-- How many faults a station counted.
abbrev pub station_faults : ListStation → ℕ
station_faults station = station.faults

-- For each door that it will make the numbers of the calls of `accept` that are to fail.
abbrev pub failing_accepts : ListStation → List (List ℕ)
failing_accepts station = map door_failing station.doors.items

-- Its calls of `door`.
abbrev pub calls_of_door : ListStation → Counted
calls_of_door station = station.door_calls

-- Its calls of `dial`.
abbrev pub calls_of_dial : ListStation → Counted
calls_of_dial station = station.dial_calls

-- The doors that were shut.
abbrev pub shut_doors : ListStation → List ReturnedDoor
shut_doors station = station.shut

-- The dialled links that were hung up.
abbrev pub hung_links : ListStation → List ReturnedLink
hung_links station = station.hung

-- Its calls of `file`.
abbrev pub calls_of_file : ListStation → Counted
calls_of_file station = station.file_calls

-- The files that it will make.
abbrev pub planned_files : ListStation → List FilePlan
planned_files station = station.files.items

-- The files that came back.
abbrev pub filed_files : ListStation → List ReturnedFile
filed_files station = station.filed
