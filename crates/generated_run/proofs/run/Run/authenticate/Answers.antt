-- What stops a step of the dialogue stops the dialogue.
use Rattle.generated_run.proofs.Leading.{err_stops, response_leads}
use Rattle.generated_run.proofs.run.Run.authenticate.Goals as goal

pub returns-in_err-enter-clause-stop : goal.returns-in_err-enter-clause-stop
returns-in_err-enter-clause-stop c = λ past has.
    err_stops c.from_residual-in_err-enter.result _ _ _ c.from_residual-in_err-enter.ensures.1 (response_leads c.args.k past c.args.asked)
    (rw (c.in_ok-event.ensures.event, c.from.ensures) at c.in_err-enter.ensures.stop past has)
