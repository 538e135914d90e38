-- What one turn comes to.
use Rattle.std.specs.Prelude.{ℕ, List, [], ◌∷◌, Option, Some, None, Result, Ok, Err, codes, map}
use Rattle.pk_outside.specs.Trees.{TreeTold}
use Rattle.pk_outside.specs.declared.tree.FileBytes.{FileBytes}
use Rattle.pk_outside.specs.declared.tree.FileBytes.TheVariants as file
use Rattle.authority_model.specs.Words.{Bytes}
use Rattle.authority_model.specs.declared.policy.Action.{Action}
use Rattle.keyfile_text.specs.Names.{fault_name as key_fault_name}
use Rattle.keyfile_text.specs.KeyFiles.{groups_of}
use Rattle.keyfile_text.specs.declared.fault.KeyFault.{KeyFault}
use Rattle.keyfile_text.specs.declared.groups.KeyGroup.{KeyGroup}
use Rattle.xml_pieces.specs.Names.{fault_name as xml_fault_name}
use Rattle.action_xml.specs.declared.fault.XmlFault.{XmlFault}
use Rattle.action_xml.specs.Files.{actions_of}
use Rattle.pkla_files.specs.Entries.{entry_of}
use Rattle.pkla_files.specs.Faults.{first_fault, kind_name}
use Rattle.pkla_files.specs.declared.fault.PklaFault.{PklaFault}
use Rattle.admin_identities.specs.Configured.{first_fault as first_admin_fault}
use Rattle.admin_identities.specs.declared.fault.AdminFault.{AdminFault}
use Rattle.admin_identities.specs.declared.fault.AdminFault.TheVariants as admin
use Rattle.policy_load.specs.declared.files.finding.Finding.{Finding}
use Rattle.policy_load.specs.declared.files.finding.Finding.TheVariants as finding
use Rattle.policy_load.specs.declared.order.turn.FileKind.{FileKind}
use Rattle.policy_load.specs.declared.order.turn.FileKind.TheVariants as kind
use Rattle.policy_load.specs.declared.order.turn.Turn.{Turn}
use Rattle.policy_load.specs.declared.order.turn.Turn.TheVariants as turn
use Rattle.policy_load.specs.Paths.{bytes_at}
use Rattle.policy_load.specs.Turns.{limit_of}

abbrev pub skipped : Bytes → Bytes → ℕ → Finding
skipped path kind at = finding.Skipped (record { file = path; kind = kind; at = at })

abbrev pub actions_found : Bytes → Result (List Action) XmlFault → Finding
actions_found path (Ok actions) = finding.Actions path actions
actions_found path (Err fault) = skipped path (xml_fault_name fault.kind) fault.at

-- an administrators' file is judged by itself, so that one with a faulty item counts for nothing
abbrev pub admins_found_in : Bytes → List KeyGroup → Option AdminFault → Finding
admins_found_in path groups None = finding.Admins groups
admins_found_in path groups (Some (admin.BadIdentity file item)) = skipped path (codes "BadIdentity") item
admins_found_in path groups (Some admin.NoMemory) = finding.Nothing

abbrev pub entries_found_in : Bytes → List KeyGroup → Option PklaFault → Finding
entries_found_in path groups None = finding.Entries (map entry_of groups)
entries_found_in path groups (Some fault) = skipped path (kind_name fault.kind) fault.group

abbrev pub admins_found : Bytes → Result (List KeyGroup) KeyFault → Finding
admins_found path (Ok groups) = admins_found_in path groups (first_admin_fault (groups ∷ []))
admins_found path (Err fault) = skipped path (key_fault_name fault.kind) fault.at

abbrev pub entries_found : Bytes → Result (List KeyGroup) KeyFault → Finding
entries_found path (Ok groups) = entries_found_in path groups (first_fault groups)
entries_found path (Err fault) = skipped path (key_fault_name fault.kind) fault.at

-- what the reader of its kind makes of a file
abbrev pub read_as : FileKind → Bytes → Bytes → Finding
read_as kind.Actions path bytes = actions_found path (actions_of bytes)
read_as kind.Admins path bytes = admins_found path (groups_of bytes)
read_as kind.Entries path bytes = entries_found path (groups_of bytes)

-- what a file comes to; one that is absent is passed over
abbrev pub found_in : FileKind → Bytes → FileBytes → Finding
found_in kind path file.Absent = finding.Nothing
found_in kind path file.TooLong = skipped path (codes "TooLong") 0
found_in kind path (file.Bytes bytes) = read_as kind path bytes

-- what a turn comes to, with what was read of its file
abbrev pub found : Turn → FileBytes → Finding
found (turn.Unnamed path count) bytes = skipped path (codes "Name") count
found (turn.PolicyFile kind None) bytes = finding.Nothing
found (turn.PolicyFile kind (Some path)) bytes = found_in kind path bytes

-- the file of a turn; a report has none
abbrev pub file_of : TreeTold → Turn → FileBytes
file_of tree (turn.Unnamed path count) = file.Absent
file_of tree (turn.PolicyFile kind path) = bytes_at tree (limit_of kind) path

abbrev pub found_at : TreeTold → Turn → Finding
found_at tree t = found t (file_of tree t)
