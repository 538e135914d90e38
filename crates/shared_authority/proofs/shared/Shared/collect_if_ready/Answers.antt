use Rattle.shared_authority.specs.declared.operation.Op.TheVariants.{Collect}
use Rattle.shared_authority.proofs.Calling.{called_now}
use Rattle.shared_authority.proofs.shared.Shared.collect_if_ready.Goals as goal

pub returns-clause-collects : goal.returns-clause-collects
returns-clause-collects g c =
    let limits = g.L.LimitsName.limits in
    let v = c.args.pass.now in
    let w = c.call_if_ready.new.pass in
    let e = c.call_if_ready.ensures in
    c.collected_now.ensures limits v w c.args.of (called_now limits v w (Collect c.args.of) c.call_if_ready.result e.none e.ok e.err)
