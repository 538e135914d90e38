use Rattle.std.proofs.Common.{[]}
use Rattle.client_messages.proofs.arguments.one_subject.Goals as goal

pub returns : goal.returns
returns c = record { values = c.in_ok-add_subject.ensures.ok [] 0 c.no_values-values.ensures.none }
