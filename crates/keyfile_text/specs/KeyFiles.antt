-- Key files: the groups of a file, or its first fault.
use Rattle.std.specs.Prelude.{◌≡◌, ℕ, ◌+◌, nat_lt, List, [], ◌∷◌, length, Option, Some, None, is_some, Result, Ok, Err, if◌then◌else◌}
use Rattle.pk_types.specs.Text.{text_bad}
use Rattle.keyfile_text.specs.Bytes.{trim}
use Rattle.keyfile_text.specs.Lines.{raw_lines, without_end, Line, Blank, Header, Setting, Faulty, line_of}
use Rattle.keyfile_text.specs.Merging.{open_group, set_in}
use Rattle.keyfile_text.specs.declared.reading.TheConstants.{MAX_KEY_FILE}
use Rattle.keyfile_text.specs.declared.groups.KeyGroup.{KeyGroup}
use Rattle.keyfile_text.specs.declared.fault.KeyFault.{KeyFault}
use Rattle.keyfile_text.specs.declared.fault.KeyFaultKind.{KeyFaultKind}
use Rattle.keyfile_text.specs.declared.fault.KeyFaultKind.TheVariants as kind

-- the groups so far, and the name of the one that is open
pub record Grouped : Type 0 where
  pub current : Option (List ℕ)
  pub groups : List KeyGroup

abbrev pub set_open : Option (List ℕ) → List ℕ → List ℕ → List KeyGroup → List KeyGroup
set_open None key value groups = groups
set_open (Some name) key value groups = set_in name key value groups

-- what a line adds, or its fault, whose place is that of the line
abbrev pub add_line : ℕ → Line → Grouped → Result Grouped KeyFault
add_line at Blank g = Ok g
add_line at (Header name) g = Ok (record { current = Some name; groups = open_group name g.groups })
add_line at (Setting key value) g = Ok (record { current = g.current; groups = set_open g.current key value g.groups })
add_line at (Faulty fault) g = Err (record { kind = fault; at = at })

-- the next lines, unless there was a fault
abbrev pub go_on : (Grouped → Result (List KeyGroup) KeyFault) → Result Grouped KeyFault → Result (List KeyGroup) KeyFault
go_on next (Ok g) = next g
go_on next (Err fault) = Err fault

-- the groups behind further lines, the first of which stands there
abbrev pub add_lines : ℕ → List (List ℕ) → Grouped → Result (List KeyGroup) KeyFault
add_lines at [] g = Ok g.groups
add_lines at (line ∷ lines) g =
    go_on (add_lines (at + length line) lines) (add_line at (line_of (is_some g.current) (trim (without_end line))) g)

abbrev pub no_groups : Grouped
no_groups = record { current = None; groups = [] }

-- the groups of bytes that are UTF-8 without byte 0
abbrev pub groups_unless : Option ℕ → List ℕ → Result (List KeyGroup) KeyFault
groups_unless (Some at) bytes = Err (record { kind = kind.NotUtf8; at = at })
groups_unless None bytes = add_lines 0 (raw_lines bytes) no_groups

-- the groups of a file of at most 1 MiB
abbrev pub groups_of : List ℕ → Result (List KeyGroup) KeyFault
groups_of bytes =
    if nat_lt MAX_KEY_FILE (length bytes) then Err (record { kind = kind.TooLong; at = 0 })
    else groups_unless (text_bad bytes) bytes

-- the fault is the first one, and want of memory is free
abbrev pub IsFirstFault : KeyFaultKind → ℕ → Result (List KeyGroup) KeyFault → Type 0
IsFirstFault kind.NoMemory at due = Unit {0}
IsFirstFault fault at due = due ≡ Err (record { kind = fault; at = at })

-- what a file of these bytes is read as
abbrev pub ReadAs : List ℕ → Result (List KeyGroup) KeyFault → Type 0
ReadAs bytes (Ok groups) = groups_of bytes ≡ Ok groups
ReadAs bytes (Err fault) = IsFirstFault fault.kind fault.at (groups_of bytes)
