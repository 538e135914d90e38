-- The sessions of a table.
use Rattle.std.specs.Prelude.{ℕ, Bool, true, false, List, [], ◌∷◌, Option, Some, None, Result, Ok, Err, if◌then◌else◌, bytes_eq, codes}
use Rattle.pk_types.specs.Pieces.{pieces_of}
use Rattle.authority_model.specs.declared.world.Session.{Session}
use Rattle.authority_model.specs.Lists.{any_of}
use Rattle.table_files.specs.declared.fault.TableFault.{TableFault}
use Rattle.table_files.specs.declared.fault.TableFault.TheVariants.{Fields, Repeated}
use Rattle.table_files.specs.Faults.{◌>>=◌}
use Rattle.table_files.specs.Fields.{is_name, fields_if, field_in, number_32}
use Rattle.table_files.specs.Tables.{table_of, with_row}

-- whether a session is local, by its word
abbrev pub local_of : List ℕ → Option Bool
local_of word = if bytes_eq word (codes "local") then Some true else if bytes_eq word (codes "remote") then Some false else None

-- whether a session is active, by its word
abbrev pub active_of : List ℕ → Option Bool
active_of word = if bytes_eq word (codes "active") then Some true else if bytes_eq word (codes "idle") then Some false else None

-- the session of the fields of a row
abbrev pub session_of_row : ℕ → List ℕ → List ℕ → List ℕ → List ℕ → Result Session TableFault
session_of_row line id uid place state = do
  _ ← fields_if line (is_name id)
  l ← field_in line (local_of place)
  a ← field_in line (active_of state)
  u ← number_32 line uid
  Ok (record { id = id; uid = u; local = l; active = a })

-- the session of the four fields of a row, `ID UID local|remote active|idle`
abbrev pub session_of_fields : ℕ → List (List ℕ) → Result Session TableFault
session_of_fields line (id ∷ uid ∷ place ∷ state ∷ []) = session_of_row line id uid place state
session_of_fields line fields = Err (Fields line)

-- whether a session with this id is listed
abbrev pub is_listed : List Session → List ℕ → Bool
is_listed sessions id = any_of (λ s. bytes_eq id s.id) sessions

-- the sessions with one more, whose id must be new
abbrev pub with_session : ℕ → Session → List Session → Result (List Session) TableFault
with_session line s sessions = if is_listed sessions s.id then Err (Repeated line) else with_row s sessions

-- the sessions with that of one more line, whose fields stand between single spaces (32)
abbrev pub with_session_line : ℕ → List ℕ → List Session → Result (List Session) TableFault
with_session_line number line sessions = session_of_fields number (pieces_of 32 line) >>= λ s. with_session number s sessions

-- the sessions of a file
abbrev pub sessions_of : List ℕ → Result (List Session) TableFault
sessions_of bytes = table_of with_session_line bytes []
