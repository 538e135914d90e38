-- What a file in memory holds, and what is told of one that came back.
use Rattle.std.specs.Prelude.{◌≡◌, ◌∷◌, ℕ, List}
use Rattle.pk_outside.specs.Files.{FileBack}
use Rattle.memory_outside.specs.Held.{sink_held, sink_calls, sink_piece, sink_room}
use Rattle.memory_outside.specs.Memory.{Counted}
use Rattle.memory_outside.specs.declared.file.FilePlan.{FilePlan}
use Rattle.memory_outside.specs.declared.file.ListFile.{ListFile}
use Rattle.memory_outside.specs.declared.file.ReturnedFile.{ReturnedFile}

-- How many bytes a planned file can hold.
abbrev pub planned_room : FilePlan → ℕ
planned_room plan = sink_room plan.sink

-- The most bytes that a planned file takes in a call.
abbrev pub planned_piece : FilePlan → ℕ
planned_piece plan = sink_piece plan.sink

-- The writes of a planned file.
abbrev pub planned_calls : FilePlan → Counted
planned_calls plan = sink_calls plan.sink

-- The path at which a file was made.
abbrev pub file_path : ListFile → List ℕ
file_path file = file.path

-- The bytes that a file got.
abbrev pub file_held : ListFile → List ℕ
file_held file = sink_held file.sink

-- How many bytes a file can hold.
abbrev pub file_room : ListFile → ℕ
file_room file = sink_room file.sink

-- The most bytes that a file takes in a call.
abbrev pub file_piece : ListFile → ℕ
file_piece file = sink_piece file.sink

-- The writes of a file.
abbrev pub file_calls : ListFile → Counted
file_calls file = sink_calls file.sink

-- What is told of a file that came back.
abbrev pub file_back : ReturnedFile → FileBack
file_back file = record { path = file.path; written = file.written.items; faults = file.faults }

-- The next of the planned files was made: it has the room, the piece and the failing writes of its plan.
pub record MakesPlanned (before after : List FilePlan) (file : ListFile) : Type 0 where
  pub plan : FilePlan
  pub next : before ≡ plan ∷ after
  pub room : file_room file ≡ planned_room plan
  pub piece : file_piece file ≡ planned_piece plan
  pub calls : file_calls file ≡ planned_calls plan
