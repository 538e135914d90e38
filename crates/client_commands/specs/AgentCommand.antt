-- The command line of the agent program: five options that are required and take one value each.
use Rattle.std.specs.Prelude.{List, ℕ, Option, codes}
use Rattle.clap.specs.Words.{App, Row, with_rule}
use Rattle.client_commands.specs.declared.agent.command.TheConstants.{DOOR, HELPER, SESSION, RULES, COUNT}
use Rattle.client_commands.specs.Options.{bare_command, option_rule, rows_in}

-- the command line of the agent program
abbrev pub agent_command : App
agent_command =
    with_rule (with_rule (with_rule (with_rule (with_rule (bare_command (codes "polkit_agent")) (option_rule DOOR.now)) (option_rule HELPER.now)) (option_rule SESSION.now)) (option_rule RULES.now)) (option_rule COUNT.now)

-- the values of the options by their names, where the words are such a command line
unfoldable pub agent_rows : List (List ℕ) → Option (List Row)
agent_rows words = rows_in agent_command words
