-- A station in memory and its doors may go to another thread. Each step is small, since the search for one proof of all gives up.
use denote.Param.Send.{IsSend, sendable}
use Rattle.std.proofs.Crossing
use Rattle.memory_outside.proofs.seats.Node.TheLaws.TheKnot
use Rattle.memory_outside.specs.contracts.door.ListDoor as door
use Rattle.memory_outside.specs.contracts.door.ReturnedDoor as returned_door
use Rattle.memory_outside.specs.contracts.file.FilePlan as file_plan
use Rattle.memory_outside.specs.contracts.file.ReturnedFile as returned_file
use Rattle.memory_outside.specs.contracts.link.ReturnedLink as returned_link
use Rattle.memory_outside.specs.contracts.link.ByteLink as byte_link
use Rattle.memory_outside.specs.contracts.seats.Returned as returned
use Rattle.memory_outside.specs.contracts.station.ListStation as station

link_send : IsSend byte_link.the_row
link_send = search (Crossing.crosses, TheKnot.crosses, sendable) depth 60 fits 20000

returned_link_send : IsSend returned_link.the_row
returned_link_send = search (Crossing.crosses, TheKnot.crosses, sendable) depth 60 fits 20000

returned_door_send : IsSend returned_door.the_row
returned_door_send = search (Crossing.crosses, TheKnot.crosses, sendable) depth 60 fits 20000

-- the links, and the doors, that came back
links_send : IsSend (returned.the_row returned_link.the_row)
links_send = search (returned_link_send, Crossing.crosses, TheKnot.crosses, sendable) depth 60 fits 20000

doors_send : IsSend (returned.the_row returned_door.the_row)
doors_send = search (returned_door_send, Crossing.crosses, TheKnot.crosses, sendable) depth 60 fits 20000

-- the files that it will make, and those that came back
file_plan_send : IsSend file_plan.the_row
file_plan_send = search (Crossing.crosses, TheKnot.crosses, sendable) depth 60 fits 20000

returned_file_send : IsSend returned_file.the_row
returned_file_send = search (Crossing.crosses, TheKnot.crosses, sendable) depth 60 fits 20000

files_send : IsSend (returned.the_row returned_file.the_row)
files_send = search (returned_file_send, Crossing.crosses, TheKnot.crosses, sendable) depth 60 fits 20000

pub door_is_send : IsSend door.the_row
door_is_send = search (link_send, links_send, Crossing.crosses, TheKnot.crosses, sendable) depth 60 fits 20000

pub station_is_send : IsSend station.the_row
station_is_send = search (link_send, doors_send, links_send, file_plan_send, files_send, Crossing.crosses, TheKnot.crosses, sendable) depth 60 fits 20000
