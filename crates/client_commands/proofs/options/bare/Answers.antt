use Rattle.std.proofs.Common.{◌∙◌, ap, true}
use Rattle.clap.specs.Simple.{on_top}
use Rattle.client_commands.proofs.Building.{set_binary, set_help, set_version}
use Rattle.client_commands.proofs.options.bare.Goals as goal

pub returns : goal.returns
returns c =
    let binary = set_binary c.new.result c.no_binary_name.result c.no_binary_name.ensures ∙ ap (on_top (λ s. record s { no_binary_name = true })) c.new.ensures.app in
    let help = set_help c.no_binary_name.result c.disable_help_flag.result c.disable_help_flag.ensures ∙ ap (on_top (λ s. record s { disable_help_flag = true })) binary in
    record { app = set_version c.disable_help_flag.result c.disable_version_flag.result c.disable_version_flag.ensures ∙ ap (on_top (λ s. record s { disable_version_flag = true })) help }
