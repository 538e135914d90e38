-- The first fault of a file's groups.
use Rattle.std.specs.Prelude.{◌≡◌, ℕ, ◌+◌, if◌then◌else◌, List, [], ◌∷◌, Option, Some, None, codes}
use Rattle.std.specs.List.{list_any}
use Rattle.keyfile_text.specs.Keys.{value_of}
use Rattle.keyfile_text.specs.declared.groups.KeyGroup.{KeyGroup}
use Rattle.authority_model.specs.Words.{Bytes}
use Rattle.pkla_files.specs.Entries.{list_in, lacks_key, has_other_word, is_netgroup}
use Rattle.pkla_files.specs.Returned.{is_bad_return}
use Rattle.pkla_files.specs.declared.fault.PklaFault.{PklaFault}
use Rattle.pkla_files.specs.declared.fault.PklaFaultKind.{PklaFaultKind}
use Rattle.pkla_files.specs.declared.fault.PklaFaultKind.TheVariants as kind

-- the names of the kinds
abbrev pub kind_name : PklaFaultKind → Bytes
kind_name kind.MissingKey = codes "MissingKey"
kind_name kind.ResultWord = codes "ResultWord"
kind_name kind.Netgroup = codes "Netgroup"
kind_name kind.ReturnValue = codes "ReturnValue"
kind_name kind.NoMemory = codes "NoMemory"

-- the fault of a value of `ReturnValue`, if the key is there
abbrev pub return_fault : Option Bytes → Option PklaFaultKind
return_fault None = None
return_fault (Some value) = if is_bad_return value then Some kind.ReturnValue else None

-- the fault of a group: the first that it has, in the order of the kinds
abbrev pub group_fault : KeyGroup → Option PklaFaultKind
group_fault group =
    if lacks_key group then Some kind.MissingKey
    else if has_other_word group then Some kind.ResultWord
    else if list_any is_netgroup (list_in (codes "Identity") group) then Some kind.Netgroup
    else return_fault (value_of (codes "ReturnValue") group)

-- the fault of a group at this place, or else that of the groups after it
abbrev pub fault_at : ℕ → Option PklaFaultKind → Option PklaFault → Option PklaFault
fault_at place None later = later
fault_at place (Some kind) later = Some (record { kind = kind; group = place })

-- the first fault of groups, the first of which is at this place
abbrev pub fault_from : ℕ → List KeyGroup → Option PklaFault
fault_from place [] = None
fault_from place (group ∷ groups) = fault_at place (group_fault group) (fault_from (place + 1) groups)

-- the first fault of a file's groups, whose places count from 0
abbrev pub first_fault : List KeyGroup → Option PklaFault
first_fault groups = fault_from 0 groups

-- the kind is the one that is due; want of memory is free
abbrev pub IsDueKind : PklaFaultKind → Option PklaFaultKind → Type 0
IsDueKind kind.NoMemory due = Unit {0}
IsDueKind fault due = due ≡ Some fault

-- the fault with this kind and place is the one that is due; want of memory is free
abbrev pub IsDueAt : PklaFaultKind → ℕ → Option PklaFault → Type 0
IsDueAt kind.NoMemory place due = Unit {0}
IsDueAt fault place due = due ≡ Some (record { kind = fault; group = place })

-- the fault is the one that is due; want of memory is free
abbrev pub IsDue : PklaFault → Option PklaFault → Type 0
IsDue fault due = IsDueAt fault.kind fault.group due
