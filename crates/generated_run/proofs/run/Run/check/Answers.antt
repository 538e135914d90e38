-- What stops a check stops what it leads to.
use Rattle.generated_run.proofs.Leading.{check_leads, err_stops}
use Rattle.generated_run.proofs.run.Run.check.Goals as goal

pub returns-in_err-asked-clause-stop : goal.returns-in_err-asked-clause-stop
returns-in_err-asked-clause-stop c = λ past has.
    err_stops c.from_residual-in_err-asked.result _ _ _ c.from_residual-in_err-asked.ensures.1 (check_leads c.args.k past)
    (rw (c.in_ok-event.ensures.event, c.from.ensures) at c.in_err-asked.ensures.stop past has)
