-- The command line of pkcheck: three options that are required and take one value each, and a flag.
use Rattle.std.specs.Prelude.{List, ℕ, Option, codes}
use Rattle.clap.specs.Words.{App, Row, with_rule}
use Rattle.client_commands.specs.declared.check.command.TheConstants.{ACTION_ID, ALLOW_USER_INTERACTION, DOOR, PROCESS}
use Rattle.client_commands.specs.Options.{bare_command, flag_rule, option_rule, rows_in}

-- the command line of pkcheck
abbrev pub check_command : App
check_command =
    with_rule (with_rule (with_rule (with_rule (bare_command (codes "pkcheck")) (option_rule DOOR.now)) (option_rule ACTION_ID.now)) (option_rule PROCESS.now)) (flag_rule ALLOW_USER_INTERACTION.now)

-- the values of the options by their names, where the words are such a command line
unfoldable pub check_rows : List (List ℕ) → Option (List Row)
check_rows words = rows_in check_command words
