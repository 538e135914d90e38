-- The audit has come to the entry at the place.
use Rattle.journal_audit.proofs.Going.{Reached}
use Rattle.journal_audit.proofs.auditing.audit.Given as goal

abbrev pub invariant-loop-place : goal.invariant-loop-place
invariant-loop-place l = Reached l.fn.history l.place l.audit
