use Rattle.std.proofs.Common.{◌≡◌, ◌++◌, ◌+◌, ◌≤◌, List, ℕ, length}
use Rattle.pk_outside.specs.Streams.{Gave}
use Rattle.source_buffer.proofs.buffer.SourceBuffer.fill.Given as goal

-- What was read stands behind what was there at first, and no read failed. The source is from where it was.
abbrev pub invariant-reads : goal.invariant-reads
invariant-reads g l = record {
  taken : (read : List ℕ) × Gave (g.I.Source.left l.fn.input) (g.I.Source.left l.input) read × (l.self ≡ l.fn.self ++ read);
  idle : l.wanted ≤ length l.fn.self → (l.self ≡ l.fn.self) × (g.I.Source.left l.input ≡ g.I.Source.left l.fn.input);
  quiet : g.I.Source.faults l.input ≡ g.I.Source.faults l.fn.input;
  same : g.I.Source.origin l.input ≡ g.I.Source.origin l.fn.input;
  later : g.I.Source.faults l.fn.input ≤ g.I.Source.faults l.input;
  fewer : g.I.Source.budget l.input + length l.self ≤ g.I.Source.budget l.fn.input + length l.fn.self;
}

abbrev pub decreases-reads : goal.decreases-reads
decreases-reads g l = g.I.Source.budget l.input
