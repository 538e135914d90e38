-- The administrators that the files of localauthority.conf.d name (pklocalauthority(8), "Administrator Authentication").
use Rattle.std.specs.Prelude.{◌≡◌, ℕ, ◌+◌, Bool, false, not, ◌||◌, List, [], ◌∷◌, Option, Some, None, option_map, option_and_then, unwrap_or, find, position, codes, bytes_eq}
use Rattle.keyfile_text.specs.Bytes.{is_empty}
use Rattle.keyfile_text.specs.Items.{items_of}
use Rattle.keyfile_text.specs.Keys.{value_of}
use Rattle.keyfile_text.specs.declared.groups.KeyGroup.{KeyGroup}
use Rattle.authority_model.specs.Lists.{or_else}
use Rattle.authority_model.specs.Words.{Bytes, after_front}
use Rattle.admin_identities.specs.declared.fault.AdminFault.{AdminFault}
use Rattle.admin_identities.specs.declared.fault.AdminFault.TheVariants as fault

-- whether something is left that is not empty
abbrev pub is_named : Option Bytes → Bool
is_named None = false
is_named (Some name) = not (is_empty name)

-- whether an item is `unix-user:` or `unix-group:` with at least one byte after it
abbrev pub is_identity : Bytes → Bool
is_identity item = is_named (after_front (codes "unix-user:") item) || is_named (after_front (codes "unix-group:") item)

-- the place of the first item that is neither
abbrev pub faulty_place : List Bytes → Option ℕ
faulty_place items = position (λ item. not (is_identity item)) items

-- the value of the key in the first group `[Configuration]`, where it has one
abbrev pub value_in : List KeyGroup → Option Bytes
value_in conf = option_and_then (value_of (codes "AdminIdentities")) (find (λ g. bytes_eq g.name (codes "Configuration")) conf)

-- the items that a file has for the key, where it has the key
abbrev pub configured : List KeyGroup → Option (List Bytes)
configured conf = option_map items_of (value_in conf)

-- the fault of the items of the file at this place
abbrev pub file_fault : ℕ → Option (List Bytes) → Option AdminFault
file_fault file items = option_map (λ item. fault.BadIdentity file item) (option_and_then faulty_place items)

-- the first fault of files, the first of which is at this place
abbrev pub fault_from : ℕ → List (List KeyGroup) → Option AdminFault
fault_from file [] = None
fault_from file (conf ∷ confs) = or_else (file_fault file (configured conf)) (fault_from (file + 1) confs)

-- the first fault of all files, whose places count from 0
abbrev pub first_fault : List (List KeyGroup) → Option AdminFault
first_fault confs = fault_from 0 confs

-- the items of the last file that has the key
abbrev pub last_configured : List (List KeyGroup) → Option (List Bytes)
last_configured [] = None
last_configured (conf ∷ confs) = or_else (last_configured confs) (configured conf)

-- the administrators: uid 0 where no file has the key
abbrev pub admins_of : List (List KeyGroup) → List Bytes
admins_of confs = unwrap_or (last_configured confs) (codes "unix-user:0" ∷ [])

-- the fault is the one that is due; want of memory is free
abbrev pub IsDue : AdminFault → Option AdminFault → Type 0
IsDue fault.NoMemory due = Unit {0}
IsDue other due = due ≡ Some other

-- the names of the faults
abbrev pub fault_name : AdminFault → Bytes
fault_name (fault.BadIdentity file item) = codes "BadIdentity"
fault_name fault.NoMemory = codes "NoMemory"
