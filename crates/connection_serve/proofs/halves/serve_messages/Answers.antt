use Rattle.std.proofs.Common.{◌≤◌, ◌∙◌, ℕ, ap, sym, subst}
use Rattle.history_lock.specs.declared.machine.TheConstants.{MOST_PASSES}
use Rattle.connection_lookout.specs.Watching.{watch_of}
use Rattle.connection_reader.specs.Reading.{Hand, hand}
use Rattle.connection_serve.proofs.Causes.{reader_faults}
use Rattle.connection_serve.proofs.Lookings.{all_written, knows_met, looks_met, looks_told, plain_is, sight_rose}
use Rattle.connection_serve.proofs.Serving.{halves_met}
use Rattle.connection_serve.specs.declared.ends.LiveEnd.{LiveEnd}
use Rattle.connection_serve.specs.Ends.{OnSightFault, plain_of}
use Rattle.connection_writer.specs.Promises.{MayAnswer}
use Rattle.connection_writer.specs.Writing.{WritesTo}
use Rattle.pk_outside.specs.Causes.{Rose}
use Rattle.connection_serve.proofs.halves.serve_messages.Goals as goal

pub returns-clause-meets : goal.returns-clause-meets
returns-clause-meets g c =
    let limits = g.L.LimitsName.limits in
    let b = c.beside-wrote.result in
    let e = c.beside-wrote.ensures in
    let new = c.beside-wrote.new in
    let m = c.meet.ensures in
    let s : Hand = hand c.args.pass.now (g.I.Source.left c.args.source.now) (g.C.Clock.gave c.args.clock.now) (g.S.Salt.gave c.args.salt.now) c.args.inbox.now (watch_of c.args.sighter.now (g.G.Sights.left c.args.sights.now) (g.G.Sights.gave c.args.sights.now)) in
    let t : Hand = hand new.pass (g.I.Source.left new.source) (g.C.Clock.gave new.clock) (g.S.Salt.gave new.salt) new.inbox (watch_of new.sighter (g.G.Sights.left new.sights) (g.G.Sights.gave new.sights)) in
    record {
      read = b.1;
      wrote = b.0;
      end_is = ap plain_of c.live_end_of.ensures ∙ plain_is b.1 b.0;
      halves = halves_met limits c.args.uid s t (g.I.Source.ended new.source) c.args.collector.now new.collector (g.O.Sink.held c.args.sink.now) (g.O.Sink.held new.sink)
          (g.I.Source.faults c.args.source.now) (g.I.Source.faults new.source) (g.O.Sink.faults c.args.sink.now) (g.O.Sink.faults new.sink) b.1 b.0 c.meet.new.pass c.meet.new.collector (watch_of c.meet.new.sighter (g.G.Sights.left new.sights) (g.G.Sights.gave new.sights))
          c.requires.connection m.first m.second (m.third (g.G.Sights.left new.sights) (g.G.Sights.gave new.sights)) m.top (subst (λ (k : ℕ). k ≤ MOST_PASSES) m.equal.1 m.top)
          (record {
            reads = e.reads;
            read_cause = reader_faults g.I.Source.left g.I.Source.faults c.args.source.now new.source b.1 e.faults;
            writes = subst (λ (n : ℕ). WritesTo limits n (g.O.Sink.held c.args.sink.now) (g.O.Sink.faults c.args.sink.now) c.args.collector.now (g.O.Sink.held new.sink) (g.O.Sink.faults new.sink) new.collector b.0) c.number-of.ensures.number e.writes;
          });
      same_history = m.equal.0;
      same_made = m.equal.1;
      same_ended = m.equal.2;
    }

pub returns-clause-looked : goal.returns-clause-looked
returns-clause-looked g c =
    let limits = g.L.LimitsName.limits in
    let b = c.beside-wrote.result in
    let e = c.beside-wrote.ensures in
    let new = c.beside-wrote.new in
    let m = c.meet.ensures in
    let s : Hand = hand c.args.pass.now (g.I.Source.left c.args.source.now) (g.C.Clock.gave c.args.clock.now) (g.S.Salt.gave c.args.salt.now) c.args.inbox.now (watch_of c.args.sighter.now (g.G.Sights.left c.args.sights.now) (g.G.Sights.gave c.args.sights.now)) in
    let t : Hand = hand new.pass (g.I.Source.left new.source) (g.C.Clock.gave new.clock) (g.S.Salt.gave new.salt) new.inbox (watch_of new.sighter (g.G.Sights.left new.sights) (g.G.Sights.gave new.sights)) in
    looks_met c.args.uid new.pass c.meet.new.pass s.watch t.watch (watch_of c.meet.new.sighter (g.G.Sights.left new.sights) (g.G.Sights.gave new.sights)) m.first (m.third (g.G.Sights.left new.sights) (g.G.Sights.gave new.sights)) (looks_told limits c.args.uid s t (g.I.Source.ended new.source) b.1 e.reads)

pub returns-clause-third : goal.returns-clause-third
returns-clause-third g c = knows_met c.meet.new.pass _ _ (c.meet.ensures.third (g.G.Sights.left c.beside-wrote.new.sights) (g.G.Sights.gave c.beside-wrote.new.sights))

pub returns-clause-sights : goal.returns-clause-sights
returns-clause-sights g c =
    let b = c.beside-wrote.result in
    let before = g.G.Sights.faults c.args.sights.now in
    let now = g.G.Sights.faults c.beside-wrote.new.sights in
    subst (λ (end : LiveEnd). OnSightFault end (Rose before now)) (sym c.live_end_of.ensures) (sight_rose before now b.1 b.0 c.beside-wrote.ensures.sights)

pub returns-clause-wrote : goal.returns-clause-wrote
returns-clause-wrote g c =
    let limits = g.L.LimitsName.limits in
    let b = c.beside-wrote.result in
    let e = c.beside-wrote.ensures in
    let new = c.beside-wrote.new in
    let m = c.meet.ensures in
    let before = g.O.Sink.held c.args.sink.now in
    let now = g.O.Sink.held new.sink in
    all_written limits c.args.pass.now.number before (g.O.Sink.faults c.args.sink.now) c.args.collector.now now (g.O.Sink.faults new.sink) new.collector b.1 b.0 c.meet.new.pass c.meet.new.collector c.live_end_of.result
    c.live_end_of.ensures c.requires.connection m.second m.equal.0 (subst (λ (k : ℕ). k ≤ MOST_PASSES) m.equal.1 m.top)
    (subst (λ (n : ℕ). WritesTo limits n before (g.O.Sink.faults c.args.sink.now) c.args.collector.now now (g.O.Sink.faults new.sink) new.collector b.0) c.number-of.ensures.number e.writes)

pub beside-wrote-requires-clause-may : goal.beside-wrote-requires-clause-may
beside-wrote-requires-clause-may g c κs within = subst (MayAnswer g.O.Sink.allowed (g.O.Sink.held c.args.sink.now) c.args.collector.now.number) (sym c.number-of.ensures.number) c.requires.may
