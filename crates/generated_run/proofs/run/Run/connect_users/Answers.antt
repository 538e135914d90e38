-- What stops one of the users stops them all.
use Rattle.generated_run.specs.Run.{connects, each_entered}
use Rattle.generated_run.proofs.Leading.{err_stops, one_leads}
use Rattle.generated_run.proofs.run.Run.connect_users.Goals as goal

pub returns-in_err-enter-clause-stop : goal.returns-in_err-enter-clause-stop
returns-in_err-enter-clause-stop c = λ past has.
    err_stops c.from_residual.result _ _ _ c.from_residual.ensures.1 (one_leads connects past c.loop-i.i 8 c.loop-i-test.true)
    (c.in_err-enter.ensures.stop (each_entered connects c.loop-i.i past) (c.loop-i.invariant past has))
