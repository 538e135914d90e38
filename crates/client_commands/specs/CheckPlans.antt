-- What the words of pkcheck ask.
use Rattle.std.specs.Prelude.{ℕ, Bool, false, List, Option, Some, None, codes}
use Rattle.std.specs.Str.{bytes_eq}
use Rattle.clap.specs.Words.{Row, first_of}
use Rattle.pk_types.specs.Decimals.{decimal_up_to, number_of}
use Rattle.command_line.specs.Doors.{cut_at, door_of, text_in}
use Rattle.client_commands.specs.declared.check.command.TheConstants.{ACTION_ID, ALLOW_USER_INTERACTION, DOOR, PROCESS}
use Rattle.client_commands.specs.declared.check.reading.CheckPlan.{CheckPlan}
use Rattle.client_commands.specs.declared.check.reading.TheConstants.{MAX_START}
use Rattle.client_commands.specs.CheckCommand.{check_rows}
use Rattle.client_commands.specs.Options.{◌>>=◌}

-- PID,START, a process id of 32 bits and a start time of 64; 44 is the comma
abbrev pub process_in : List ℕ → Option (ℕ × ℕ)
process_in word = do
  (before, after) ← cut_at 44 word
  pid ← number_of before
  start ← decimal_up_to MAX_START after
  Some (pid, start)

-- whether the flag was given, by its value
abbrev pub is_asked : Option (List ℕ) → Bool
is_asked None = false
is_asked (Some value) = bytes_eq value (codes "true")

-- what the values of the three options ask, where each has its form
unfoldable pub plan_in : List ℕ → List ℕ → List ℕ → Bool → Option CheckPlan
plan_in door action process ask = do
  place ← door_of door
  (pid, start) ← process_in process
  id ← text_in action
  Some (record { uid = place.uid; path = place.path; action = id; pid = pid; start = start; ask = ask })

-- the same, where each option is there
abbrev pub plan_given : Option (List ℕ) → Option (List ℕ) → Option (List ℕ) → Bool → Option CheckPlan
plan_given (Some door) (Some action) (Some process) ask = plan_in door action process ask
plan_given _ _ _ ask = None

-- what the values of the options ask
abbrev pub plan_from : List Row → Option CheckPlan
plan_from rows = plan_given (first_of DOOR.now rows) (first_of ACTION_ID.now rows) (first_of PROCESS.now rows) (is_asked (first_of ALLOW_USER_INTERACTION.now rows))

-- what the words ask, where they are in the grammar: such options as the command line has, each value in its form
abbrev pub plan_of : List (List ℕ) → Option CheckPlan
plan_of words = check_rows words >>= plan_from
