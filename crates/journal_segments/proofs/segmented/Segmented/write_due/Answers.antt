-- The segment so far is full.
use Rattle.std.proofs.Common.{List, ℕ, ap, sym, subst, ◌∙◌}
use Rattle.journal_segments.specs.Due.{is_due}
use Rattle.journal_segments.specs.Segments.{Segments}
use Rattle.journal_segments.specs.Steps.{WritesAll}
use Rattle.journal_segments.proofs.Entries.{due_is}
use Rattle.journal_segments.proofs.segmented.Segmented.write_due.Goals as goal

pub returns-then-is_due-clause-wrote : goal.returns-then-is_due-clause-wrote
returns-then-is_due-clause-wrote g c done is =
    subst (λ (t : List ℕ). WritesAll g.F.Sink.held t c.args.file.now c.write_segment.new.file c.write_segment.result)
    (sym (due_is done c.args.self.now (c.if-is_due.ensures.due ∙ ap (λ (s : Segments). is_due s.per s.items) c.self.view_is)))
    (c.write_segment.ensures.wrote done is)
