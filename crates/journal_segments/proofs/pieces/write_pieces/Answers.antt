use Rattle.std.proofs.Common.{◌∙◌}
use Rattle.pk_outside.proofs.Written.{GotUpTo-more, on_err, write_failed}
use Rattle.journal_segments.proofs.pieces.write_pieces.Goals as goal

pub loop-rest-preserved : goal.loop-rest-preserved
loop-rest-preserved g c = record {
  written = rw c.split_at.ensures.back (GotUpTo-more _ _ _ _ _ _ c.loop-rest.invariant.written c.in_ok-n.ensures.bytes);
  same = c.in_ok-n.ensures.same ∙ c.loop-rest.invariant.same;
  quiet = c.in_ok-n.ensures.quiet ∙ c.loop-rest.invariant.quiet;
}

pub returns-in_err-n-clause-last : goal.returns-in_err-n-clause-last
returns-in_err-n-clause-last g c =
    on_err _
    (write_failed g.F.Sink.held g.F.Sink.faults _ c.loop-rest.file _ c.loop-rest.invariant.quiet c.in_err-n.ensures.cause.failed c.in_err-n.ensures.bytes)
