-- The settings of a command line, and that the clients' are simple commands.
use Rattle.std.proofs.Common.{◌≡◌, true, refl, ap}
use Rattle.clap.specs.Simple.{app_of_fields, on_top}
use Rattle.clap.specs.Words.{app_of, is_simple, is_simple_and_free}
use Rattle.clap.specs.declared.builder.command.Command.TheViews.{out-Command}
use Rattle.clap.specs.declared.builder.command.Command.{Command}
use Rattle.clap.proofs.OnLiterals.{clap_on_literals}
use Rattle.client_commands.specs.CheckCommand.{check_command}
use Rattle.client_commands.specs.AgentCommand.{agent_command}

pub set_binary : (c d : Command) → out-Command d ≡ record (out-Command c) { no_binary_name = true } → app_of d ≡ on_top (λ s. record s { no_binary_name = true }) (app_of c)
set_binary c d e = ap app_of_fields e

pub set_help : (c d : Command) → out-Command d ≡ record (out-Command c) { disable_help_flag = true } → app_of d ≡ on_top (λ s. record s { disable_help_flag = true }) (app_of c)
set_help c d e = ap app_of_fields e

pub set_version : (c d : Command) → out-Command d ≡ record (out-Command c) { disable_version_flag = true } → app_of d ≡ on_top (λ s. record s { disable_version_flag = true }) (app_of c)
set_version c d e = ap app_of_fields e

pub check_simple : is_simple check_command ≡ true
unfolding clap_on_literals
check_simple = refl

pub check_free : is_simple_and_free check_command ≡ true
unfolding clap_on_literals
check_free = refl

pub agent_simple : is_simple agent_command ≡ true
unfolding clap_on_literals
agent_simple = refl

pub agent_free : is_simple_and_free agent_command ≡ true
unfolding clap_on_literals
agent_free = refl
