-- What the turns of a load come to.
use Rattle.std.specs.Prelude.{ℕ, ◌+◌, Bool, true, false, List, [], ◌∷◌, ◌++◌, codes, bytes_eq, length, count_by, if◌then◌else◌}
use Rattle.std.specs.List.{list_any}
use Rattle.pk_outside.specs.Trees.{TreeTold}
use Rattle.pk_outside.specs.declared.tree.FileBytes.{FileBytes}
use Rattle.pk_outside.specs.declared.tree.FileBytes.TheVariants as file
use Rattle.authority_model.specs.Words.{Bytes}
use Rattle.authority_model.specs.declared.policy.Action.{Action}
use Rattle.authority_model.specs.declared.load.FileFault.{FileFault}
use Rattle.policy_load.specs.declared.files.finding.Finding.{Finding}
use Rattle.policy_load.specs.declared.files.finding.Finding.TheVariants as finding
use Rattle.policy_load.specs.declared.files.joined.Joined.{Joined}
use Rattle.policy_load.specs.declared.order.turn.Turn.{Turn}
use Rattle.policy_load.specs.declared.order.turn.Turn.TheVariants as turn
use Rattle.policy_load.specs.Findings.{file_of}

abbrev pub nothing_joined : Joined
nothing_joined = record { actions = []; entries = []; admins = []; faults = [] }

abbrev pub with_fault : FileFault → Joined → Joined
with_fault fault j = record j { faults = j.faults ++ fault ∷ [] }

-- whether an action has the id
abbrev pub has_id : Bytes → List Action → Bool
has_id id actions = list_any (λ a. bytes_eq id a.id) actions

-- the fault of the action at this place of its file, whose id stands already
abbrev pub again : Bytes → ℕ → FileFault
again path at = record { file = path; kind = codes "Again"; at = at }

-- one more action: of two with one id the first stands, and the other is reported
abbrev pub with_action : Bytes → ℕ → Action → Joined → Joined
with_action path at a j = if has_id a.id j.actions then with_fault (again path at) j else record j { actions = j.actions ++ a ∷ [] }

-- the actions of a file, the first of which stands at this place
abbrev pub with_actions : Bytes → ℕ → List Action → Joined → Joined
with_actions path at [] j = j
with_actions path at (a ∷ actions) j = with_actions path (at + 1) actions (with_action path at a j)

abbrev pub with_finding : Finding → Joined → Joined
with_finding finding.Nothing j = j
with_finding (finding.Skipped fault) j = with_fault fault j
with_finding (finding.Actions path actions) j = with_actions path 0 actions j
with_finding (finding.Admins groups) j = record j { admins = j.admins ++ groups ∷ [] }
with_finding (finding.Entries entries) j = record j { entries = j.entries ++ entries }

abbrev pub with_findings : List Finding → Joined → Joined
with_findings [] j = j
with_findings (f ∷ findings) j = with_findings findings (with_finding f j)

-- whether a turn is a file's
abbrev pub is_file : Turn → Bool
is_file (turn.Unnamed path count) = false
is_file (turn.PolicyFile kind path) = true

-- how many policy files there are, also those that are absent or too long
abbrev pub file_count : List Turn → ℕ
file_count turns = count_by is_file turns

-- the bytes of a file within its own limit
abbrev pub size_of : FileBytes → ℕ
size_of (file.Bytes bytes) = length bytes
size_of file.Absent = 0
size_of file.TooLong = 0

-- the bytes of all files, as far as these are within their own limits
abbrev pub byte_count : TreeTold → List Turn → ℕ
byte_count tree [] = 0
byte_count tree (t ∷ turns) = size_of (file_of tree t) + byte_count tree turns
