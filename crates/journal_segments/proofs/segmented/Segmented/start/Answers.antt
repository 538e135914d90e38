-- The desk stands for the empty history.
use Rattle.journal_segments.proofs.Entries.{started, started_is}
use Rattle.journal_segments.proofs.segmented.Segmented.start.Goals as goal

pub invariant_of-result : goal.invariant_of-result
invariant_of-result c = started_is c.args.per c.new-2.result.items c.in_ok-desk.desk.value c.in_ok-start.field-0 c.new-2.ensures.empty c.in_ok-desk.ensures.ok c.in_ok-start.ensures.empty c.requires.some

pub returns-clause-stands : goal.returns-clause-stands
returns-clause-stands c = started c.args.per c.new-2.result.items c.in_ok-desk.desk.value c.in_ok-start.field-0 c.new-2.ensures.empty c.in_ok-desk.ensures.ok c.in_ok-start.ensures.empty
