-- What stands before the rest was written, and the path and the count are as they were.
use Rattle.std.proofs.Common.{◌≡◌, length}
use Rattle.pk_outside.specs.Streams.{GotUpTo}
use Rattle.journal_segments.proofs.pieces.write_pieces.Given as goal

abbrev pub invariant-loop-rest : goal.invariant-loop-rest
invariant-loop-rest g l = record {
  written : GotUpTo (g.F.Sink.held l.fn.file) (g.F.Sink.held l.file) l.bytes l.rest;
  same : g.F.Sink.path l.file ≡ g.F.Sink.path l.fn.file;
  quiet : g.F.Sink.faults l.file ≡ g.F.Sink.faults l.fn.file;
}

abbrev pub decreases-loop-rest : goal.decreases-loop-rest
decreases-loop-rest g l = length l.rest
