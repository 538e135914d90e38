-- One message more, or a prefix of all.
use Rattle.std.proofs.Common.{◌++◌, List, ℕ, take, ap, sym, ◌∙◌, subst, append_assoc, arith}
use Rattle.authority_messages.specs.Texts.{message_text, texts}
use Rattle.pk_outside.specs.Streams.{GotUpTo}
use Rattle.connection_writer.proofs.Texts.{texts_around, texts_more}
use Rattle.connection_writer.proofs.Written.{behind_part, front_longer, front_more, upto_more, upto_refused}
use Rattle.connection_writer.proofs.Promising.{message_may}
use Rattle.connection_writer.proofs.batches.add_messages.Goals as goal

pub returns-in_err-add_message-clause-writes : goal.returns-in_err-add_message-clause-writes
returns-in_err-add_message-clause-writes g c =
    let i = c.loop-output.invariant in
    let k = c.loop-output.output-index in
    let os = c.args.outputs.now in
    let loads = c.args.history.now.loads in
    let before : List ℕ = c.args.outbox.now in
    let done : List ℕ = texts loads c.args.first (take k os) in
    let text : List ℕ = message_text loads c.loop-output.serial c.output-item.result in
    let around = texts_around loads c.args.first c.loop-output.serial os k c.output-item.result c.loop-output-test.true c.output-item.is i.serial in
    upto_refused _ _ _ _ c.from_residual.result _ c.from_residual.ensures.1
    (front_longer _ _ _ ((before ++ done) ++ text) around.0 (behind_part before done text around.0 (texts loads c.args.first os) around.1)
    (front_more _ _ _ (before ++ done) c.loop-output.outbox text i.written c.in_err-add_message.ensures.writes))

pub loop-output-preserved : goal.loop-output-preserved
loop-output-preserved g c =
    let i = c.loop-output.invariant in
    let k = c.loop-output.output-index in
    let os = c.args.outputs.now in
    let loads = c.args.history.now.loads in
    let before : List ℕ = c.args.outbox.now in
    let done : List ℕ = texts loads c.args.first (take k os) in
    let text : List ℕ = message_text loads c.loop-output.serial c.output-item.result in
    let more = ap (λ (l : List ℕ). before ++ l) (texts_more loads c.args.first c.loop-output.serial os k c.output-item.result c.loop-output-test.true c.output-item.is i.serial) ∙ sym (append_assoc before done text) in
    record {
      serial = omega (arith, i.serial);
      written = subst (λ (l : List ℕ). GotUpTo (g.O.Sink.held c.args.sink.now) (g.O.Sink.held c.add_message.new.sink) l c.add_message.new.outbox) (sym more)
          (upto_more _ _ _ (before ++ done) c.loop-output.outbox text c.add_message.new.outbox i.written c.in_ok-add_message.ensures.writes);
      later = (let a = i.later in let b = c.add_message.ensures.later in omega (arith, a, b));
    }

pub add_message-requires-clause-may : goal.add_message-requires-clause-may
add_message-requires-clause-may g c κs within =
    let i = c.loop-output.invariant in
    let k = c.loop-output.output-index in
    let os = c.args.outputs.now in
    let loads = c.args.history.now.loads in
    let around = texts_around loads c.args.first c.loop-output.serial os k c.output-item.result c.loop-output-test.true c.output-item.is i.serial in
    message_may g.O.Sink.allowed (g.O.Sink.held c.args.sink.now) (g.O.Sink.held c.loop-output.sink) c.args.outbox.now (texts loads c.args.first (take k os)) (message_text loads c.loop-output.serial c.output-item.result) around.0
    (texts loads c.args.first os) c.loop-output.outbox around.1 c.requires.may i.written
