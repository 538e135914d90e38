-- Which text is an action id.
use Rattle.std.specs.Prelude.{◌≡◌, ℕ, Bool, ◌||◌, ◌&&◌, not, ◌==◌, nat_lt, nat_le, List, length, Option, None, Some, Result, Ok, Err, position, if◌then◌else◌}
use Rattle.pk_types.specs.declared.action_id.IdFault.{IdFault}
use Rattle.pk_types.specs.declared.action_id.IdFault.TheVariants as id_fault

-- an ASCII digit, an upper-case letter, a lower-case letter, a dot, a dash or a low line
abbrev pub is_id_byte_of : ℕ → Bool
is_id_byte_of b = (nat_le 48 b && nat_le b 57) || (nat_le 65 b && nat_le b 90) || (nat_le 97 b && nat_le b 122) || b == 46 || b == 45 || b == 95

-- the fault of a byte that no id has, where there is one
abbrev pub bad_char : Option ℕ → Option IdFault
bad_char (Some at) = Some (id_fault.BadChar at)
bad_char None = None

-- why a text is no action id
abbrev pub id_fault_of : List ℕ → Option IdFault
id_fault_of text =
    if length text == 0 then Some id_fault.Empty
    else if nat_lt 255 (length text) then Some (id_fault.TooLong (length text))
    else bad_char (position (λ b. not (is_id_byte_of b)) text)

-- the fault is the one that is due, and want of memory is free
abbrev pub IdFaultIs : IdFault → Option IdFault → Type 0
IdFaultIs id_fault.NoMemory due = Unit {0}
IdFaultIs fault due = due ≡ Some fault

-- the text spells this id, or it is no id for this cause
abbrev pub IdIs : List ℕ → Result (List ℕ) IdFault → Type 0
IdIs text (Ok id) = (id ≡ text) × (id_fault_of text ≡ None)
IdIs text (Err fault) = IdFaultIs fault (id_fault_of text)
