use Rattle.std.proofs.Common.{[]}
use Rattle.client_messages.proofs.arguments.unregister.Goals as goal

pub returns : goal.returns
returns c = record { values = c.in_ok-add_string.ensures.ok _ 4 (c.in_ok-add_subject.ensures.ok [] 0 c.no_values-values.ensures.none) }
