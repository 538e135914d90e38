use Rattle.std.proofs.Common.{[]}
use Rattle.client_messages.proofs.Calling.{deeper}
use Rattle.client_messages.proofs.arguments.one_text.Goals as goal

pub returns : goal.returns
returns c = record { values = deeper _ _ (c.in_ok-add_string.ensures.ok [] 0 c.no_values-values.ensures.none) }
