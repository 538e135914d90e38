-- What the phases of a load hand on.
use Rattle.pk_outside.specs.Trees.{TreeTold}
use Rattle.policy_load.specs.declared.files.finding.Finding.{Finding}
use Rattle.policy_load.specs.declared.files.joined.Joined.{Joined}
use Rattle.policy_load.specs.declared.files.joining.Joining.{Joining}
use Rattle.policy_load.specs.declared.files.reading.TurnFile.{TurnFile}
use Rattle.policy_load.specs.declared.order.turn.Turn.{Turn}
use Rattle.policy_load.specs.Findings.{file_of, found}

-- a turn with its file
abbrev pub turn_file : TreeTold → Turn → TurnFile
turn_file tree t = record { turn = t; bytes = file_of tree t }

-- what a turn with its file comes to
abbrev pub found_with : TurnFile → Finding
found_with file = found file.turn file.bytes

-- what was joined so far
abbrev pub joined_of : Joining → Joined
joined_of joining = record { actions = joining.actions.actions; entries = joining.entries; admins = joining.admins; faults = joining.faults }
