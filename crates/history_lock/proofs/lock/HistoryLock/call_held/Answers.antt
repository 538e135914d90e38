use Rattle.history_lock.proofs.Outcomes.{call_number, call_grows}
use Rattle.history_lock.proofs.lock.HistoryLock.call_held.Goals as goal

pub returns-clause-number : goal.returns-clause-number
returns-clause-number g c =
    let m = g.M.Machine in
    let a = c.call-answer in
    call_number m.caller_of m.legal m.is_ready m.gives m.refuses m.fits c.args.pass.now a.new.pass c.args.op a.result a.ensures.ok a.ensures.err

pub returns-clause-grows : goal.returns-clause-grows
returns-clause-grows g c =
    let m = g.M.Machine in
    let a = c.call-answer in
    call_grows m.caller_of m.legal m.is_ready m.gives m.refuses m.fits c.args.pass.now a.new.pass c.args.op a.result a.ensures.ok a.ensures.err
