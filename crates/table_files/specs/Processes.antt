-- The processes of a table.
use Rattle.std.specs.Prelude.{ℕ, ◌==◌, Bool, false, not, List, [], ◌∷◌, Option, Some, None, Result, Ok, Err, if◌then◌else◌, bytes_eq, codes}
use Rattle.pk_types.specs.Pieces.{pieces_of}
use Rattle.authority_model.specs.declared.world.Process.{Process}
use Rattle.authority_model.specs.declared.world.Session.{Session}
use Rattle.authority_model.specs.Lists.{any_of}
use Rattle.table_files.specs.declared.fault.TableFault.{TableFault}
use Rattle.table_files.specs.declared.fault.TableFault.TheVariants.{Fields, Repeated, Dangling}
use Rattle.table_files.specs.Faults.{◌>>=◌}
use Rattle.table_files.specs.Fields.{is_name, fields_if, number_32, number_64}
use Rattle.table_files.specs.Sessions.{is_listed}
use Rattle.table_files.specs.Tables.{table_of, with_row}

-- the session that a field names; `-` names none
abbrev pub session_in : List ℕ → Option (List ℕ)
session_in field = if bytes_eq field (codes "-") then None else Some field

-- the process of the fields of a row
abbrev pub process_of_row : ℕ → List ℕ → List ℕ → List ℕ → List ℕ → Result Process TableFault
process_of_row line pid start uid session = do
  _ ← fields_if line (is_name session)
  p ← number_32 line pid
  s ← number_64 line start
  u ← number_32 line uid
  Ok (record { pid = p; start = s; uid = u; session = session_in session })

-- the process of the four fields of a row, `PID START UID SESSION|-`
abbrev pub process_of_fields : ℕ → List (List ℕ) → Result Process TableFault
process_of_fields line (pid ∷ start ∷ uid ∷ session ∷ []) = process_of_row line pid start uid session
process_of_fields line fields = Err (Fields line)

-- whether a session is named that is not listed
abbrev pub dangles : (List ℕ → Bool) → Option (List ℕ) → Bool
dangles listed None = false
dangles listed (Some id) = not (listed id)

-- the processes with one more, whose pid must be new and whose session must be listed
abbrev pub with_process : (List ℕ → Bool) → ℕ → Process → List Process → Result (List Process) TableFault
with_process listed line p processes =
    if any_of (λ q. p.pid == q.pid) processes then Err (Repeated line)
    else if dangles listed p.session then Err (Dangling line)
    else with_row p processes

-- the processes with that of one more line, whose fields stand between single spaces (32)
abbrev pub with_process_line : (List ℕ → Bool) → ℕ → List ℕ → List Process → Result (List Process) TableFault
with_process_line listed number line processes = process_of_fields number (pieces_of 32 line) >>= λ p. with_process listed number p processes

-- the processes of a file, where these sessions are listed
abbrev pub processes_of : List ℕ → List Session → Result (List Process) TableFault
processes_of bytes sessions = table_of (with_process_line (is_listed sessions)) bytes []
