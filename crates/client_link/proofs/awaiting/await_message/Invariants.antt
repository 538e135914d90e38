use Rattle.std.proofs.Common.{◌≡◌, ◌++◌, ◌+◌, ◌≤◌, List, ℕ, length}
use Rattle.pk_outside.specs.Streams.{Gave}
use Rattle.client_link.proofs.awaiting.await_message.Given as goal

-- What was read stands behind what was there, and no read failed.
abbrev pub invariant-pieces : goal.invariant-pieces
invariant-pieces g l = record {
  taken : (read : List ℕ) × Gave (g.I.Source.left l.fn.source) (g.I.Source.left l.source) read × (l.buffer ≡ l.fn.buffer ++ read);
  same : g.I.Source.origin l.source ≡ g.I.Source.origin l.fn.source;
  quiet : g.I.Source.faults l.source ≡ g.I.Source.faults l.fn.source;
  fewer : g.I.Source.budget l.source + length l.buffer ≤ g.I.Source.budget l.fn.source + length l.fn.buffer;
}

abbrev pub decreases-pieces : goal.decreases-pieces
decreases-pieces g l = g.I.Source.budget l.source
