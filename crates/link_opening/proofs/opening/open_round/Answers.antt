-- The handshake stops inside the buffer, or the whole buffer was fed and more was read.
use Rattle.std.proofs.lemmas.Option.{MatchOption-at_none, MatchOption-at_some}
use Rattle.link_opening.proofs.Rounds.{all_taken, cut, no_memory, read_fault, reads_on, stopped_at}
use Rattle.link_opening.proofs.Replying.{round_fed}
use Rattle.link_opening.proofs.opening.open_round.Goals as goal

pub feed_bytes-fed-requires-clause-may : goal.feed_bytes-fed-requires-clause-may
feed_bytes-fed-requires-clause-may g c κs within =
    round_fed g.O.Sink.allowed c.args.guid (g.I.Source.left c.args.source.now) (g.O.Sink.held c.args.sink.now) c.args.buffer.now c.bytes.result.now c.args.shake.now c.bytes.ensures.bytes c.requires.may

pub returns-in-Some-clause-opens : goal.returns-in-Some-clause-opens
returns-in-Some-clause-opens g c door first left held u =
    stopped_at door c.args.guid first left (g.I.Source.left c.args.source.now) held (g.O.Sink.held c.args.sink.now) c.args.buffer.now c.args.shake.now u c.feed_bytes-fed.result.0 (g.I.Source.ended c.args.source.now) (g.O.Sink.held c.feed_bytes-fed.new.sink) c.in-Some.stop c.bytes.result.now c.take.new.self c.opening.result c.bytes.ensures.bytes c.take.ensures.taken c.opening.ensures
    (MatchOption-at_some _ _ c.in-Some.stop c.in-Some.is (c.feed_bytes-fed.ensures.feeds door u.bytes held u.fed))

pub returns-in-There-clause-opens : goal.returns-in-There-clause-opens
returns-in-There-clause-opens g c door first left held u =
    let fills = c.in-There.ensures.fills in
    reads_on door c.args.guid first left (g.I.Source.left c.args.source.now) held (g.O.Sink.held c.args.sink.now) c.args.buffer.now c.args.shake.now u (g.O.Sink.held c.feed_bytes-fed.new.sink) c.feed_bytes-fed.new.shake (g.I.Source.left c.fill.new.input) c.bytes.result.now c.take.new.self c.fill.new.self fills.0
    (MatchOption-at_none _ _ c.in-None.is (c.feed_bytes-fed.ensures.feeds door u.bytes held u.fed)) c.bytes.ensures.bytes
    (all_taken c.feed_bytes-fed.result.1 c.feed_bytes-fed.result.0 c.bytes.result.now c.args.buffer.now c.take.new.self c.in-None.is c.feed_bytes-fed.ensures.all c.bytes.ensures.bytes c.take.ensures.taken)
    fills.2.0 fills.1

pub returns-in-End-clause-opens : goal.returns-in-End-clause-opens
returns-in-End-clause-opens g c door first left held u =
    let fills = c.in-End.ensures.fills in
    cut door c.args.guid first left (g.I.Source.left c.fill.new.input) held (g.O.Sink.held c.feed_bytes-fed.new.sink) c.fill.new.self c.feed_bytes-fed.new.shake
    (reads_on door c.args.guid first left (g.I.Source.left c.args.source.now) held (g.O.Sink.held c.args.sink.now) c.args.buffer.now c.args.shake.now u (g.O.Sink.held c.feed_bytes-fed.new.sink) c.feed_bytes-fed.new.shake (g.I.Source.left c.fill.new.input) c.bytes.result.now c.take.new.self c.fill.new.self fills.0
    (MatchOption-at_none _ _ c.in-None.is (c.feed_bytes-fed.ensures.feeds door u.bytes held u.fed)) c.bytes.ensures.bytes
    (all_taken c.feed_bytes-fed.result.1 c.feed_bytes-fed.result.0 c.bytes.result.now c.args.buffer.now c.take.new.self c.in-None.is c.feed_bytes-fed.ensures.all c.bytes.ensures.bytes c.take.ensures.taken)
    fills.2.0 fills.1) (g.I.Source.ended c.fill.new.input) fills.2.1 fills.2.2

pub returns-in-ReadFault-clause-opens : goal.returns-in-ReadFault-clause-opens
returns-in-ReadFault-clause-opens g c door first left held u =
    let fills = c.in-ReadFault.ensures.fills in
    read_fault door c.args.guid first left (g.I.Source.left c.fill.new.input) held (g.O.Sink.held c.feed_bytes-fed.new.sink) c.fill.new.self c.feed_bytes-fed.new.shake
    (reads_on door c.args.guid first left (g.I.Source.left c.args.source.now) held (g.O.Sink.held c.args.sink.now) c.args.buffer.now c.args.shake.now u (g.O.Sink.held c.feed_bytes-fed.new.sink) c.feed_bytes-fed.new.shake (g.I.Source.left c.fill.new.input) c.bytes.result.now c.take.new.self c.fill.new.self fills.0
    (MatchOption-at_none _ _ c.in-None.is (c.feed_bytes-fed.ensures.feeds door u.bytes held u.fed)) c.bytes.ensures.bytes
    (all_taken c.feed_bytes-fed.result.1 c.feed_bytes-fed.result.0 c.bytes.result.now c.args.buffer.now c.take.new.self c.in-None.is c.feed_bytes-fed.ensures.all c.bytes.ensures.bytes c.take.ensures.taken)
    fills.2.0 fills.1) (g.I.Source.ended c.fill.new.input) fills.2.1

pub returns-in-NoMemory-clause-opens : goal.returns-in-NoMemory-clause-opens
returns-in-NoMemory-clause-opens g c door first left held u =
    let fills = c.in-NoMemory.ensures.fills in
    no_memory door c.args.guid first left (g.I.Source.left c.fill.new.input) held (g.O.Sink.held c.feed_bytes-fed.new.sink) c.fill.new.self c.feed_bytes-fed.new.shake
    (reads_on door c.args.guid first left (g.I.Source.left c.args.source.now) held (g.O.Sink.held c.args.sink.now) c.args.buffer.now c.args.shake.now u (g.O.Sink.held c.feed_bytes-fed.new.sink) c.feed_bytes-fed.new.shake (g.I.Source.left c.fill.new.input) c.bytes.result.now c.take.new.self c.fill.new.self fills.0
    (MatchOption-at_none _ _ c.in-None.is (c.feed_bytes-fed.ensures.feeds door u.bytes held u.fed)) c.bytes.ensures.bytes
    (all_taken c.feed_bytes-fed.result.1 c.feed_bytes-fed.result.0 c.bytes.result.now c.args.buffer.now c.take.new.self c.in-None.is c.feed_bytes-fed.ensures.all c.bytes.ensures.bytes c.take.ensures.taken)
    fills.2.0 fills.1) (g.I.Source.ended c.fill.new.input) c.fill.new.self
