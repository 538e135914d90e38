use Rattle.std.proofs.Common.{◌≡◌, ◌≤◌, ℕ}
use Rattle.connection_lookout.specs.Watching.{watch_of}
use Rattle.connection_reader.specs.Reading.{Hand, IsUnderway, hand}
use Rattle.connection_reader.proofs.reading.read_messages.Given as goal

-- From wherever the connection began, if it had come so far it has come so far still. No read failed.
abbrev pub invariant-loop-turn : goal.invariant-loop-turn
invariant-loop-turn g l = record {
  later : g.I.Source.faults l.fn.source ≤ g.I.Source.faults l.source;
  quiet : g.I.Source.faults l.source ≡ g.I.Source.faults l.fn.source;
  steady : g.G.Sights.faults l.sights ≡ g.G.Sights.faults l.fn.sights;
  same : g.I.Source.origin l.source ≡ g.I.Source.origin l.fn.source;
  so : (uid : ℕ) (s : Hand) → IsUnderway uid s (hand l.initial.pass (g.I.Source.left l.fn.source) (g.C.Clock.gave l.fn.clock) (g.S.Salt.gave l.fn.salt) l.initial.inbox (watch_of l.fn.sighter (g.G.Sights.left l.fn.sights) (g.G.Sights.gave l.fn.sights)))
      → IsUnderway uid s (hand l.pass (g.I.Source.left l.source) (g.C.Clock.gave l.clock) (g.S.Salt.gave l.salt) l.inbox (watch_of l.sighter (g.G.Sights.left l.sights) (g.G.Sights.gave l.sights)));
}
