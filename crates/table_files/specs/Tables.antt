-- A table of the lines of a file, or its first fault.
use Rattle.std.specs.Prelude.{ℕ, ◌+◌, ◌==◌, Bool, true, nat_lt, List, [], ◌∷◌, ◌++◌, length, Result, Ok, Err, if◌then◌else◌}
use Rattle.pk_types.specs.Pieces.{lines_of}
use Rattle.table_files.specs.declared.fault.TableFault.{TableFault}
use Rattle.table_files.specs.declared.fault.TableFault.TheVariants.{TooLong, TooMany}
use Rattle.table_files.specs.declared.limits.TheConstants.{MAX_FILE, MAX_ROWS}
use Rattle.table_files.specs.Faults.{◌>>=◌}

-- whether a line says nothing: it is empty, or begins with `#` (35)
abbrev pub is_passed_over : List ℕ → Bool
is_passed_over [] = true
is_passed_over (b ∷ line) = b == 35

-- the table with a line, by what a line adds that says something
abbrev pub after_line : {T : Type 0} → (ℕ → List ℕ → T → Result T TableFault) → ℕ → List ℕ → T → Result T TableFault
after_line with_line number line table = if is_passed_over line then Ok table else with_line number line table

-- the table with further lines, the first of which has that number
abbrev pub after_lines : {T : Type 0} → (ℕ → List ℕ → T → Result T TableFault) → ℕ → List (List ℕ) → T → Result T TableFault
after_lines with_line number [] table = Ok table
after_lines with_line number (line ∷ lines) table = after_line with_line number line table >>= after_lines with_line (number + 1) lines

-- the table with the lines of a file, which count from 1
abbrev pub table_of : {T : Type 0} → (ℕ → List ℕ → T → Result T TableFault) → List ℕ → T → Result T TableFault
table_of with_line bytes table = if nat_lt MAX_FILE (length bytes) then Err TooLong else after_lines with_line 1 (lines_of bytes) table

-- the rows with one more at the end, unless there are as many as a table has at most
abbrev pub with_row : {A : Type 0} → A → List A → Result (List A) TableFault
with_row row rows = if nat_lt (length rows) MAX_ROWS then Ok (rows ++ row ∷ []) else Err (TooMany (MAX_ROWS + 1))
