-- What stops one of the agents stops them all.
use Rattle.generated_run.specs.Run.{registers, each_entered}
use Rattle.generated_run.proofs.Leading.{err_stops, one_leads}
use Rattle.generated_run.proofs.run.Run.register_agents.Goals as goal

pub returns-in_err-enter-clause-stop : goal.returns-in_err-enter-clause-stop
returns-in_err-enter-clause-stop c = λ past has.
    err_stops c.from_residual-in_err-enter.result _ _ _ c.from_residual-in_err-enter.ensures.1 (one_leads registers past c.loop-i.i 8 c.loop-i-test.true)
    (rw c.in_ok-event.ensures.event at c.in_err-enter.ensures.stop (each_entered registers c.loop-i.i past) (c.loop-i.invariant past has))
