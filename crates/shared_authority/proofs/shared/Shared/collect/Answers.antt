use Rattle.shared_authority.specs.declared.operation.Op.TheVariants.{Collect}
use Rattle.shared_authority.proofs.Calling.{called, told_ok, told_err}
use Rattle.shared_authority.proofs.shared.Shared.collect.Goals as goal

pub returns-clause-ok : goal.returns-clause-ok
returns-clause-ok g c =
    let limits = g.L.LimitsName.limits in
    let v = c.args.pass.now in
    let w = c.call_when_ready.new.pass in
    told_ok limits v w c.args.of c.collected_or_refused.result
    (c.collected_or_refused.ensures.collects limits v w c.args.of (called limits v w (Collect c.args.of) c.call_when_ready.result c.call_when_ready.ensures.ok c.call_when_ready.ensures.err))

pub returns-clause-err : goal.returns-clause-err
returns-clause-err g c =
    let limits = g.L.LimitsName.limits in
    let v = c.args.pass.now in
    let w = c.call_when_ready.new.pass in
    told_err limits v w c.args.of c.collected_or_refused.result
    (c.collected_or_refused.ensures.collects limits v w c.args.of (called limits v w (Collect c.args.of) c.call_when_ready.result c.call_when_ready.ensures.ok c.call_when_ready.ensures.err))

pub returns-clause-room : goal.returns-clause-room
returns-clause-room g c =
    let limits = g.L.LimitsName.limits in
    let v = c.args.pass.now in
    let w = c.call_when_ready.new.pass in
    c.collected_or_refused.ensures.room limits v w c.args.of (called limits v w (Collect c.args.of) c.call_when_ready.result c.call_when_ready.ensures.ok c.call_when_ready.ensures.err)
