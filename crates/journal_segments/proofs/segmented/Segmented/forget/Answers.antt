-- The history stays.
use Rattle.journal_segments.proofs.Entries.{forgotten}
use Rattle.journal_segments.proofs.segmented.Segmented.forget.Goals as goal

pub invariant_of-self : goal.invariant_of-self
invariant_of-self c =
    forgotten (record { per = c.self.inside.per; written = c.self.inside.written; items = c.self.inside.segment.items; desk = c.self.inside.desk.value }) c.args.number c.new.result.items c.self.invariant c.new.ensures.empty
