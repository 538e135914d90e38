-- What stops a step of the setup stops the setup.
use Rattle.std.proofs.Common.{[]}
use Rattle.generated_run.proofs.Leading.{err_stops, loaded, loaded_leads, root_in, root_leads, users_in, users_lead}
use Rattle.generated_run.proofs.Steps.{set_up_is}
use Rattle.generated_run.proofs.run.Run.set_up.Goals as goal

pub returns-in_err-load-clause-stop : goal.returns-in_err-load-clause-stop
returns-in_err-load-clause-stop c = λ has.
    err_stops c.from_residual-in_err-load.result _ _ _ c.from_residual-in_err-load.ensures.1 loaded_leads (rw c.in_ok-setup.ensures.setup at c.in_err-load.ensures.stop [] has)

pub returns-in_err-connect_users-clause-stop : goal.returns-in_err-connect_users-clause-stop
returns-in_err-connect_users-clause-stop c = λ has.
    err_stops c.from_residual-in_err-connect_users.result _ _ _ c.from_residual-in_err-connect_users.ensures.1 users_lead
    (c.in_err-connect_users.ensures.stop loaded (rw c.in_ok-setup.ensures.setup at c.in_ok-load.ensures.ok [] has))

pub returns-in_err-enter-clause-stop : goal.returns-in_err-enter-clause-stop
returns-in_err-enter-clause-stop c = λ has.
    err_stops c.from_residual-in_err-enter.result _ _ _ c.from_residual-in_err-enter.ensures.1 root_leads
    (c.in_err-enter.ensures.stop users_in (c.in_ok-connect_users.ensures.ok loaded (rw c.in_ok-setup.ensures.setup at c.in_ok-load.ensures.ok [] has)))

pub returns-clause-stop : goal.returns-clause-stop
returns-clause-stop c = λ has.
    rw set_up_is (c.register_agents.ensures.stop root_in (c.in_ok-enter.ensures.ok users_in (c.in_ok-connect_users.ensures.ok loaded (rw c.in_ok-setup.ensures.setup at c.in_ok-load.ensures.ok [] has))))
