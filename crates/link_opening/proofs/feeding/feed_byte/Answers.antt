-- Each step of the handshake.
use Rattle.std.proofs.Common.{subst, sym, ◌∙◌}
use Rattle.pk_outside.specs.Allowing.{MayGo}
use Rattle.pk_outside.specs.Streams.{Got, GotFront}
use Rattle.link_opening.proofs.Fed.{fed_more, fed_said, fed_front, fed_begun, fed_fault}
use Rattle.link_opening.proofs.Replying.{reply_may}
use Rattle.link_opening.proofs.feeding.feed_byte.Goals as goal

pub write_all-requires-clause-may : goal.write_all-requires-clause-may
write_all-requires-clause-may g c κs within =
    subst (MayGo g.O.Sink.allowed (g.O.Sink.held c.args.sink.now)) (sym (c.bytes.ensures.bytes ∙ c.reply_bytes-line.ensures.line))
    (reply_may g.O.Sink.allowed c.args.guid c.args.byte (g.O.Sink.held c.args.sink.now) c.args.shake.now c.feed.new.self c.in-Say.reply c.requires.may c.in-Say.ensures.step)

pub returns-in-More-clause-feeds : goal.returns-in-More-clause-feeds
returns-in-More-clause-feeds g c door bytes held so =
    fed_more door c.args.guid bytes held (g.O.Sink.held c.args.sink.now) c.args.shake.now c.feed.new.self c.args.byte so c.in-More.ensures.step c.in-More.ensures.now c.in-More.ensures.over

pub returns-in-Ok-clause-feeds : goal.returns-in-Ok-clause-feeds
returns-in-Ok-clause-feeds g c door bytes held so =
    fed_said door c.args.guid bytes held (g.O.Sink.held c.args.sink.now) c.args.shake.now c.feed.new.self c.args.byte so c.in-Say.reply (g.O.Sink.held c.write_all.new.output)
    c.in-Say.ensures.step c.in-Say.ensures.now c.in-Say.ensures.over
    (subst (Got (g.O.Sink.held c.args.sink.now) (g.O.Sink.held c.write_all.new.output)) (c.bytes.ensures.bytes ∙ c.reply_bytes-line.ensures.line) c.in-Ok.ensures.ok)

pub returns-in-Err-clause-feeds : goal.returns-in-Err-clause-feeds
returns-in-Err-clause-feeds g c door bytes held so =
    fed_front door c.args.guid bytes held (g.O.Sink.held c.args.sink.now) c.args.shake.now c.feed.new.self c.args.byte so c.in-Say.reply (g.O.Sink.held c.write_all.new.output)
    c.in-Say.ensures.step
    (subst (GotFront (g.O.Sink.held c.args.sink.now) (g.O.Sink.held c.write_all.new.output)) (c.bytes.ensures.bytes ∙ c.reply_bytes-line.ensures.line) c.in-Err.ensures.err)

pub returns-in-Begun-clause-feeds : goal.returns-in-Begun-clause-feeds
returns-in-Begun-clause-feeds g c door bytes held so =
    fed_begun door c.args.guid bytes held (g.O.Sink.held c.args.sink.now) c.args.shake.now c.feed.new.self c.args.byte so c.in-Begun.ensures.step c.in-Begun.ensures.over

pub returns-in-Fault-clause-feeds : goal.returns-in-Fault-clause-feeds
returns-in-Fault-clause-feeds g c door bytes held so =
    fed_fault door c.args.guid bytes held (g.O.Sink.held c.args.sink.now) c.args.shake.now c.feed.new.self c.args.byte so c.in-Fault.fault c.in-Fault.ensures.step c.in-Fault.ensures.over
