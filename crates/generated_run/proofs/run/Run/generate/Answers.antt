-- What stops a step of the run stops the run.
use Rattle.generated_run.specs.Run.{generated}
use Rattle.generated_run.proofs.Leading.{checked_leads, err_stops, set_up_leads}
use Rattle.generated_run.proofs.run.Run.generate.Goals as goal

pub returns-in_err-set_up-clause-stop : goal.returns-in_err-set_up-clause-stop
returns-in_err-set_up-clause-stop c = λ has.
    err_stops c.from_residual.result _ _ _ c.from_residual.ensures.1 (set_up_leads c.args.n) (c.in_err-set_up.ensures.stop has)

pub returns-in_err-check-clause-stop : goal.returns-in_err-check-clause-stop
returns-in_err-check-clause-stop c = λ has.
    err_stops c.from_residual-in_err-check.result _ _ _ c.from_residual-in_err-check.ensures.1 (checked_leads c.loop-k.k c.args.n c.loop-k-test.true)
    (c.in_err-check.ensures.stop (generated c.loop-k.k) (c.loop-k.invariant has))
