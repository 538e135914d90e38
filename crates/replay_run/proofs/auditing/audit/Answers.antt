-- The audit begins with the first draft, or its refusal ends it.
use Rattle.replay_run.proofs.AuditTexts.{goes_on}
use Rattle.replay_run.proofs.FirstLoads.{began_first, refused_first}
use Rattle.replay_run.proofs.auditing.audit.Goals as goal

pub returns-in-Err-clause-run : goal.returns-in-Err-clause-run
returns-in-Err-clause-run g c = refused_first _ _ _ _ _ _ _ c.in-Err.refused _ c.refused_end.ensures.end c.in-Err.ensures.refused

pub returns-in-Ok-clause-run : goal.returns-in-Ok-clause-run
returns-in-Ok-clause-run g c =
    began_first _ _ _ _ _ _ _ (goes_on c.args.limits _ _ _ _ _) (record { first = c.in-Ok.first; is_first = c.in-Ok.ensures.first; run = c.audit_from.ensures.run })
