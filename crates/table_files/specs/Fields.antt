-- The fields of a row.
use Rattle.std.specs.Prelude.{ℕ, Bool, true, false, ◌&&◌, nat_le, List, length, Option, Some, None, is_none, Result, Ok, Err}
use Rattle.pk_types.specs.Text.{text_bad}
use Rattle.pk_types.specs.Decimals.{decimal_up_to, number_of}
use Rattle.table_files.specs.declared.fault.TableFault.{TableFault}
use Rattle.table_files.specs.declared.fault.TableFault.TheVariants.{Fields, Number}
use Rattle.table_files.specs.declared.limits.TheConstants.{MAX_NAME}

-- whether a field may be a name or a session id: UTF-8 without byte 0, of at most 4,096 bytes
abbrev pub is_name : List ℕ → Bool
is_name field = nat_le (length field) MAX_NAME && is_none (text_bad field)

-- the line has its fields, by a test
abbrev pub fields_if : ℕ → Bool → Result (Unit {0}) TableFault
fields_if line true = Ok tt
fields_if line false = Err (Fields line)

-- the value of a field, where it has one
abbrev pub field_in : {A : Type 0} → ℕ → Option A → Result A TableFault
field_in line None = Err (Fields line)
field_in line (Some value) = Ok value

-- the number of a field, where it has one
abbrev pub some_number : ℕ → Option ℕ → Result ℕ TableFault
some_number line None = Err (Number line)
some_number line (Some number) = Ok number

-- the number of 32 bits that a field names
abbrev pub number_32 : ℕ → List ℕ → Result ℕ TableFault
number_32 line field = some_number line (number_of field)

-- the number of 64 bits that a field names
abbrev pub number_64 : ℕ → List ℕ → Result ℕ TableFault
number_64 line field = some_number line (decimal_up_to 18446744073709551615 field)
