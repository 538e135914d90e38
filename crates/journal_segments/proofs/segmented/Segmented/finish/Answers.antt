-- The rest has an entry.
use Rattle.std.proofs.Common.{◌==◌, List, ℕ, ap, sym, subst, length, ◌∙◌}
use Rattle.journal_segments.specs.Segments.{Segments}
use Rattle.journal_segments.specs.Steps.{WritesAll}
use Rattle.journal_segments.proofs.Entries.{rest_is}
use Rattle.journal_segments.proofs.segmented.Segmented.finish.Goals as goal

pub returns-else-is_empty-clause-wrote : goal.returns-else-is_empty-clause-wrote
returns-else-is_empty-clause-wrote g c done is =
    subst (λ (t : List ℕ). WritesAll g.F.Sink.held t c.args.file.now c.write_segment.new.file c.write_segment.result)
    (sym (rest_is done c.args.self.now (c.if-is_empty.ensures.empty ∙ ap (λ (s : Segments). length s.items == 0) c.self.view_is)))
    (c.write_segment.ensures.wrote done is)
