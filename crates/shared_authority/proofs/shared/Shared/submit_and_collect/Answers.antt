use Rattle.shared_authority.specs.declared.operation.Op.TheVariants.{Collect}
use Rattle.shared_authority.proofs.Calling.{called_now}
use Rattle.shared_authority.proofs.Entering.{had_room, step_placed, submitted}
use Rattle.shared_authority.proofs.Refusing.{event_comes_back}
use Rattle.shared_authority.proofs.shared.Shared.submit_and_collect.Goals as goal

pub into_place-requires : goal.into_place-requires
into_place-requires g c = let a = c.in-Ok.ensures.ok in step_placed c.args.pass.now.number c.args.given.moment c.args.given.salt c.args.given.event a.learned.grown.before a.entry c.in-Ok.reply a.given.gives

pub returns-in-Ok-clause-ok : goal.returns-in-Ok-clause-ok
returns-in-Ok-clause-ok g c = submitted g.L.LimitsName.limits c.args.pass.now c.call_then.new.pass c.args.given.moment c.args.given.salt c.into_place.result c.args.given.event c.in-Ok.reply c.into_place.ensures c.in-Ok.ensures.ok

pub returns-in-Ok-clause-collects : goal.returns-in-Ok-clause-collects
returns-in-Ok-clause-collects g c =
    let limits = g.L.LimitsName.limits in
    let v = c.args.collector.now in
    let w = c.call_then.new.next in
    let e = c.in-Ok.ensures in
    c.collected_now.ensures limits v w c.args.of (called_now limits v w (Collect c.args.of) c.in-Ok.then e.next_none e.next_ok e.next_err)

pub returns-in-Ok-clause-room : goal.returns-in-Ok-clause-room
returns-in-Ok-clause-room g c = had_room g.L.LimitsName.limits c.args.pass.now c.call_then.new.pass _ c.in-Ok.reply c.in-Ok.ensures.ok

pub submit_refused-requires : goal.submit_refused-requires
submit_refused-requires g c = event_comes_back g.L.LimitsName.limits c.args.pass.now c.call_then.new.pass c.args.given.moment c.args.given.salt c.args.given.event c.in-Err.first c.in-Err.ensures.err

pub returns-in-Err-clause-err : goal.returns-in-Err-clause-err
returns-in-Err-clause-err g c = (c.submit_refused.ensures g.L.LimitsName.limits c.args.pass.now c.call_then.new.pass c.args.given.moment c.args.given.salt c.args.given.event c.in-Err.ensures.err, c.in-Err.ensures.unmade)
