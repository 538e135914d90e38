use Rattle.std.proofs.Common.{◌≡◌, ◌++◌, ◌+◌, ◌≤◌, List, ℕ, length}
use Rattle.pk_outside.specs.Streams.{Gave}
use Rattle.pk_types.specs.Pieces.{Lacks}
use Rattle.source_buffer.proofs.buffer.SourceBuffer.next_line.Given as goal

-- What was kept at first and read since is the line so far and what is kept now, and no read failed.
abbrev pub invariant-pieces : goal.invariant-pieces
invariant-pieces g l = record {
  taken : (read : List ℕ) × Gave (g.I.Source.left l.fn.input) (g.I.Source.left l.input) read × (l.fn.self ++ read ≡ l.line.items ++ l.self);
  lacks : Lacks 10 l.line.items;
  short : length l.line.items ≤ l.max;
  quiet : g.I.Source.faults l.input ≡ g.I.Source.faults l.fn.input;
  fewer : g.I.Source.budget l.input + length l.self ≤ g.I.Source.budget l.fn.input + length l.fn.self;
}

abbrev pub decreases-pieces : goal.decreases-pieces
decreases-pieces g l = g.I.Source.budget l.input
