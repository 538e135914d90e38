use Rattle.std.proofs.Common.{[]}
use Rattle.client_messages.proofs.arguments.check.Goals as goal

pub returns : goal.returns
returns c = record { values = c.in_ok-add_string-2.ensures.ok _ 4 (c.in_ok-add_uint32.ensures.ok _ 4 (c.in_ok-add.ensures.ok 2 _ c.in_ok-details.ensures.value _ 4 (c.in_ok-add_string.ensures.ok _ 4 (c.in_ok-add_subject.ensures.ok [] 0 c.no_values-values.ensures.none)))) }
