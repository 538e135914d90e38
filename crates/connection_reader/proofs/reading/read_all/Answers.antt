-- Something is refused at the beginning, between or at the end; or all is handed in.
use Rattle.connection_lookout.specs.Watching.{watch_of}
use Rattle.connection_reader.specs.Reading.{Hand, ReadsTo, hand}
use Rattle.connection_reader.specs.Stops.{end_of}
use Rattle.connection_reader.proofs.Readings.{begun, begun_not, depart_entered, depart_refused}
use Rattle.connection_reader.proofs.Stopping.{handed_on, reads_to}
use Rattle.connection_reader.proofs.reading.read_all.Goals as goal

pub returns-in_err-hand_in-clause-reads : goal.returns-in_err-hand_in-clause-reads
returns-in_err-hand_in-clause-reads g c =
    let s : Hand = hand c.args.pass.now (g.I.Source.left c.args.source.now) (g.C.Clock.gave c.args.clock.now) (g.S.Salt.gave c.args.salt.now) c.args.inbox.now (watch_of c.args.sighter.now (g.G.Sights.left c.args.sights.now) (g.G.Sights.gave c.args.sights.now)) in
    let w = c.hand_in.new.pass in
    let m = g.C.Clock.gave c.hand_in.new.clock in
    let x = g.S.Salt.gave c.hand_in.new.salt in
    let h = c.in_err-hand_in.ensures.hands in
    handed_on (λ result. ReadsTo g.L.LimitsName.limits c.args.uid s (hand w s.left m x s.unread s.watch) (g.I.Source.ended c.args.source.now) (end_of result)) c.from_residual.result c.in_err-hand_in.field-0.0 c.from_residual.ensures.1
    (begun_not g.L.LimitsName.limits c.args.uid s w m x c.requires.fresh c.requires.fresh_sighter c.in_err-hand_in.field-0.0 h, h.enters.fits, h.enters.knows)

pub returns-in_err-stop-clause-reads : goal.returns-in_err-stop-clause-reads
returns-in_err-stop-clause-reads g c =
    let s : Hand = hand c.args.pass.now (g.I.Source.left c.args.source.now) (g.C.Clock.gave c.args.clock.now) (g.S.Salt.gave c.args.salt.now) c.args.inbox.now (watch_of c.args.sighter.now (g.G.Sights.left c.args.sights.now) (g.G.Sights.gave c.args.sights.now)) in
    let t : Hand = hand c.read_messages.new.pass (g.I.Source.left c.read_messages.new.source) (g.C.Clock.gave c.read_messages.new.clock) (g.S.Salt.gave c.read_messages.new.salt) c.read_messages.new.inbox (watch_of c.read_messages.new.sighter (g.G.Sights.left c.read_messages.new.sights) (g.G.Sights.gave c.read_messages.new.sights)) in
    let b = begun g.L.LimitsName.limits c.args.uid s c.hand_in.new.pass (g.C.Clock.gave c.hand_in.new.clock) (g.S.Salt.gave c.hand_in.new.salt) c.requires.fresh c.requires.fresh_sighter _ c.in_ok-hand_in.ensures.hands in
    handed_on (λ result. ReadsTo g.L.LimitsName.limits c.args.uid s t (g.I.Source.ended c.read_messages.new.source) (end_of result)) c.from_residual-in_err-stop.result c.in_err-stop.field-0.0 c.from_residual-in_err-stop.ensures.1
    (c.in_err-stop.ensures.reads c.args.uid s b, c.in_err-stop.ensures.stops.0, c.in_err-stop.ensures.stops.1)

pub returns-in_err-hand_in-2-clause-reads : goal.returns-in_err-hand_in-2-clause-reads
returns-in_err-hand_in-2-clause-reads g c =
    let s : Hand = hand c.args.pass.now (g.I.Source.left c.args.source.now) (g.C.Clock.gave c.args.clock.now) (g.S.Salt.gave c.args.salt.now) c.args.inbox.now (watch_of c.args.sighter.now (g.G.Sights.left c.args.sights.now) (g.G.Sights.gave c.args.sights.now)) in
    let t : Hand = hand c.read_messages.new.pass (g.I.Source.left c.read_messages.new.source) (g.C.Clock.gave c.read_messages.new.clock) (g.S.Salt.gave c.read_messages.new.salt) c.read_messages.new.inbox (watch_of c.read_messages.new.sighter (g.G.Sights.left c.read_messages.new.sights) (g.G.Sights.gave c.read_messages.new.sights)) in
    let w = c.hand_in-2.new.pass in
    let m = g.C.Clock.gave c.hand_in-2.new.clock in
    let x = g.S.Salt.gave c.hand_in-2.new.salt in
    let h = c.in_err-hand_in-2.ensures.hands in
    let b = begun g.L.LimitsName.limits c.args.uid s c.hand_in.new.pass (g.C.Clock.gave c.hand_in.new.clock) (g.S.Salt.gave c.hand_in.new.salt) c.requires.fresh c.requires.fresh_sighter _ c.in_ok-hand_in.ensures.hands in
    let r = c.in_ok-stop.ensures.reads c.args.uid s b in
    handed_on (λ result. ReadsTo g.L.LimitsName.limits c.args.uid s (hand w t.left m x t.unread t.watch) (g.I.Source.ended c.read_messages.new.source) (end_of result)) c.from_residual-in_err-hand_in-2.result c.in_err-hand_in-2.field-0.0 c.from_residual-in_err-hand_in-2.ensures.1
    (depart_refused g.L.LimitsName.limits c.args.uid s t r w m x c.in_err-hand_in-2.field-0.0 h, h.enters.fits, h.enters.knows)

pub returns-clause-reads : goal.returns-clause-reads
returns-clause-reads g c =
    let s : Hand = hand c.args.pass.now (g.I.Source.left c.args.source.now) (g.C.Clock.gave c.args.clock.now) (g.S.Salt.gave c.args.salt.now) c.args.inbox.now (watch_of c.args.sighter.now (g.G.Sights.left c.args.sights.now) (g.G.Sights.gave c.args.sights.now)) in
    let t : Hand = hand c.read_messages.new.pass (g.I.Source.left c.read_messages.new.source) (g.C.Clock.gave c.read_messages.new.clock) (g.S.Salt.gave c.read_messages.new.salt) c.read_messages.new.inbox (watch_of c.read_messages.new.sighter (g.G.Sights.left c.read_messages.new.sights) (g.G.Sights.gave c.read_messages.new.sights)) in
    let w = c.hand_in-2.new.pass in
    let m = g.C.Clock.gave c.hand_in-2.new.clock in
    let x = g.S.Salt.gave c.hand_in-2.new.salt in
    let b = begun g.L.LimitsName.limits c.args.uid s c.hand_in.new.pass (g.C.Clock.gave c.hand_in.new.clock) (g.S.Salt.gave c.hand_in.new.salt) c.requires.fresh c.requires.fresh_sighter _ c.in_ok-hand_in.ensures.hands in
    let r = c.in_ok-stop.ensures.reads c.args.uid s b in
    reads_to g.L.LimitsName.limits c.args.uid s (hand w t.left m x t.unread t.watch) (g.I.Source.ended c.read_messages.new.source) c.in_ok-stop.stop
    (depart_entered g.L.LimitsName.limits c.args.uid s t r w m x _ c.in_ok-hand_in-2.ensures.hands) c.in_ok-stop.ensures.stops
