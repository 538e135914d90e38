-- What the words of the agent program ask.
use Rattle.std.specs.Prelude.{ℕ, ◌==◌, List, length, Option, Some, None, if◌then◌else◌, option_and_then}
use Rattle.clap.specs.Words.{Row, first_of}
use Rattle.pk_types.specs.Decimals.{decimal_up_to}
use Rattle.command_line.specs.Doors.{door_of, text_in}
use Rattle.client_commands.specs.declared.agent.command.TheConstants.{DOOR, HELPER, SESSION, RULES, COUNT}
use Rattle.client_commands.specs.declared.agent.reading.AgentPlan.{AgentPlan}
use Rattle.client_commands.specs.declared.agent.reading.TheConstants.{MAX_COUNT}
use Rattle.client_commands.specs.AgentCommand.{agent_rows}
use Rattle.client_commands.specs.Options.{◌>>=◌}

-- a text that is not empty
abbrev pub path_in : List ℕ → Option (List ℕ)
path_in value = if length value == 0 then None else text_in value

-- a number above 0
abbrev pub above_none : ℕ → Option ℕ
above_none n = if n == 0 then None else Some n

-- a number from 1 to 1,000,000
abbrev pub count_in : List ℕ → Option ℕ
count_in value = option_and_then above_none (decimal_up_to MAX_COUNT value)

-- what the values of the five options ask, where each has its form
unfoldable pub plan_in : List ℕ → List ℕ → List ℕ → List ℕ → List ℕ → Option AgentPlan
plan_in door helper session rules count = do
  place ← door_of door
  beside ← path_in helper
  registered ← text_in session
  file ← text_in rules
  number ← count_in count
  Some (record { uid = place.uid; path = place.path; helper = beside; session = registered; rules = file; count = number })

-- the same, where each option is there
abbrev pub plan_given : Option (List ℕ) → Option (List ℕ) → Option (List ℕ) → Option (List ℕ) → Option (List ℕ) → Option AgentPlan
plan_given (Some door) (Some helper) (Some session) (Some rules) (Some count) = plan_in door helper session rules count
plan_given _ _ _ _ _ = None

-- what the values of the options ask
abbrev pub plan_from : List Row → Option AgentPlan
plan_from rows = plan_given (first_of DOOR.now rows) (first_of HELPER.now rows) (first_of SESSION.now rows) (first_of RULES.now rows) (first_of COUNT.now rows)

-- what the words ask, where they are in the grammar: such options as the command line has, each value in its form
abbrev pub plan_of : List (List ℕ) → Option AgentPlan
plan_of words = agent_rows words >>= plan_from
