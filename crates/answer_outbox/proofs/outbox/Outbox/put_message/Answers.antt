-- What is not written yet is followed by the message.
use Rattle.answer_outbox.proofs.Outboxes.{message_behind}
use Rattle.answer_outbox.proofs.outbox.Outbox.put_message.Goals as goal

pub returns-in-Ok-clause-put : goal.returns-in-Ok-clause-put
returns-in-Ok-clause-put c = message_behind c.self.inside.bytes.items c.put_message_of.new.out.items c.args.self.now c.self.inside.start c.args.history.now.loads c.args.serial c.args.output.now c.self.view_is c.self.invariant c.in-Ok.ensures.put
