use Rattle.std.proofs.Common.{[]}
use Rattle.authority_messages.proofs.verdict.authorization_result.Goals as goal

pub returns : goal.returns
returns c = record { value = c.structure.ensures.value 2 _ _ (c.in_ok-add.ensures.ok 2 _ c.in_ok-details.ensures.value _ 0 (c.in_ok-add_boolean-2.ensures.ok _ 0 (c.in_ok-add_boolean.ensures.ok [] 0 c.no_values-members.ensures.none))) }
