use Rattle.std.proofs.Common.{◌≡◌, ◌+◌, ◌*◌, length}
use Rattle.link_opening.specs.Feeds.{Underway}
use Rattle.link_opening.proofs.opening.open_link.Given as goal

-- The opening goes on, and nothing failed.
abbrev pub invariant-rounds : goal.invariant-rounds
invariant-rounds g l = record {
  so : Underway l.door l.guid l.fn.buffer (g.I.Source.left l.fn.source) (g.I.Source.left l.source) (g.O.Sink.held l.fn.sink) (g.O.Sink.held l.sink) l.buffer l.shake;
  same : g.I.Source.origin l.source ≡ g.I.Source.origin l.fn.source;
  read : g.I.Source.faults l.source ≡ g.I.Source.faults l.fn.source;
  wrote : g.O.Sink.faults l.sink ≡ g.O.Sink.faults l.fn.sink;
}

abbrev pub decreases-rounds : goal.decreases-rounds
decreases-rounds g l = 2 * g.I.Source.budget l.source + length l.buffer
