use Rattle.authority_messages.specs.Outgoing.{outgoing}
use Rattle.authority_messages.specs.Messages.{size}
use Rattle.authority_messages.proofs.Sizes.{over_is}
use Rattle.authority_messages.proofs.limits.is_over.Goals as goal

pub returns : goal.returns
returns c = record { over = over_is c.message_size.result (size (outgoing c.args.out.now)) (c.message_size.ensures.exact 1) }
