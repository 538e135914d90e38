use Rattle.std.proofs.Common.{[]}
use Rattle.client_messages.proofs.arguments.respond.Goals as goal

pub returns : goal.returns
returns c = record { values = c.in_ok-add.ensures.ok 4 _ c.in_ok-who.ensures.value _ 0 (c.in_ok-add_string.ensures.ok [] 0 c.no_values-values.ensures.none) }
