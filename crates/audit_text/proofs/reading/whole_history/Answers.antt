use Rattle.audit_text.proofs.Ending.{whole_ends, more_ends, unseen_ends}
use Rattle.audit_text.proofs.reading.whole_history.Goals as goal

pub returns-in-Ok-true : goal.returns-in-Ok-true
returns-in-Ok-true g c = record { ends = whole_ends c.args.history _ _ (rw c.in-Ok-true.field-0-test at c.in-Ok-true.ensures.empty) }

pub returns-in-Ok-false : goal.returns-in-Ok-false
returns-in-Ok-false g c = record { ends = more_ends c.args.history _ _ _ _ (rw c.in-Ok-false.field-0-test at c.in-Ok-false.ensures.empty) c.close.ensures.closed }

pub returns-in-Err : goal.returns-in-Err
returns-in-Err g c = record { ends = unseen_ends c.args.history _ _ _ _ _ c.in-Err.ensures.empty c.refused.ensures.refusal }
