-- The file failed in the text.
use Rattle.std.proofs.Common.{◌+◌, ap, ◌∙◌}
use Rattle.journal_segments.specs.Text.{segment_text}
use Rattle.journal_segments.proofs.Entries.{segment_failed}
use Rattle.journal_segments.proofs.segmented.Segmented.write_segment.Goals as goal

pub returns-in_err-write_pieces-clause-wrote : goal.returns-in_err-write_pieces-clause-wrote
returns-in_err-write_pieces-clause-wrote g c done is =
    segment_failed g.F.Sink.held c.deref.result.now (segment_text (c.args.self.now.written + 1) done c.args.self.now.items) c.args.file.now c.write_pieces.new.file c.from_residual-in_err-write_pieces.result
    c.from_residual-in_err-write_pieces.ensures.1
    (c.deref.ensures.value ∙ c.in_ok-text.ensures.text done is ∙ ap (λ n. segment_text n done c.args.self.now.items) c.in_ok-number.ensures.number) c.in_err-write_pieces.ensures.err
