-- What was in the outbox is written, or a prefix of it.
use Rattle.std.proofs.Common.{◌++◌, sym, subst}
use Rattle.authority_messages.specs.Texts.{texts}
use Rattle.pk_outside.specs.Allowing.{MayFronts}
use Rattle.pk_outside.specs.Streams.{Got, GotFront}
use Rattle.connection_writer.proofs.Promising.{ready_may}
use Rattle.connection_writer.proofs.Written.{upto_all, upto_front, writes_refused}
use Rattle.connection_writer.proofs.batches.write_batch.Goals as goal

pub add_messages-requires-clause-may : goal.add_messages-requires-clause-may
add_messages-requires-clause-may g c κs within =
    subst (MayFronts g.O.Sink.allowed (g.O.Sink.held c.args.sink.now)) (sym (λ i. c.new-outbox.ensures.empty i ++ texts c.args.batch.loads c.args.batch.from (c.as_slice.ensures.items i))) c.requires.may

pub write_out-requires-clause-may : goal.write_out-requires-clause-may
write_out-requires-clause-may g c κs within =
    ready_may g.O.Sink.allowed (g.O.Sink.held c.args.sink.now) (g.O.Sink.held c.add_messages.new.sink) (c.new-outbox.result ++ texts c.args.batch.loads c.args.batch.from c.as_slice.result.now) c.add_messages.new.outbox
    (subst (MayFronts g.O.Sink.allowed (g.O.Sink.held c.args.sink.now)) (sym (λ i. c.new-outbox.ensures.empty i ++ texts c.args.batch.loads c.args.batch.from (c.as_slice.ensures.items i))) c.requires.may)
    c.in_ok-add_messages.ensures.writes

pub returns-in_err-write_out-clause-writes : goal.returns-in_err-write_out-clause-writes
returns-in_err-write_out-clause-writes g c =
    writes_refused _ _ _ c.from_residual-in_err-write_out.result _ c.from_residual-in_err-write_out.ensures.1
    (subst (GotFront (g.O.Sink.held c.args.sink.now) (g.O.Sink.held c.write_out.new.output)) (λ i. c.new-outbox.ensures.empty i ++ texts c.args.batch.loads c.args.batch.from (c.as_slice.ensures.items i))
    (upto_front _ _ _ _ _ _ c.in_ok-add_messages.ensures.writes c.in_err-write_out.ensures.written))

pub returns-clause-writes : goal.returns-clause-writes
returns-clause-writes g c =
    subst (Got (g.O.Sink.held c.args.sink.now) (g.O.Sink.held c.write_out.new.output)) (λ i. c.new-outbox.ensures.empty i ++ texts c.args.batch.loads c.args.batch.from (c.as_slice.ensures.items i))
    (upto_all _ _ _ _ _ _ c.in_ok-add_messages.ensures.writes c.in_ok-write_out.ensures.written c.in_ok-write_out.ensures.all)
