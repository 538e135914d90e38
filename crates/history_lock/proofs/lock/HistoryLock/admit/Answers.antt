use Rattle.history_lock.proofs.Outcomes.{admit_learned}
use Rattle.history_lock.proofs.lock.HistoryLock.admit.Goals as goal

pub returns-clause-learned : goal.returns-clause-learned
returns-clause-learned g c =
    let m = g.M.Machine in
    admit_learned m.caller_of m.legal c.args.pass.now c.admit.new.pass c.admit.result c.admit.ensures.ok c.admit.ensures.full
