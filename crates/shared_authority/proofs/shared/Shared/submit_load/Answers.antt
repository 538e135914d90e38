use Rattle.shared_authority.proofs.Entering.{had_room, load_placed, submitted_load}
use Rattle.shared_authority.proofs.Refusing.{load_comes_back}
use Rattle.shared_authority.proofs.shared.Shared.submit_load.Goals as goal

pub into_place-requires : goal.into_place-requires
into_place-requires g c = let a = c.in-Ok.ensures.ok in load_placed c.args.pass.now.number c.args.moment c.args.loaded a.learned.grown.before a.entry c.in-Ok.reply a.given.gives

pub returns-in-Ok-clause-ok : goal.returns-in-Ok-clause-ok
returns-in-Ok-clause-ok g c = submitted_load g.L.LimitsName.limits c.args.pass.now c.call.new.pass c.args.moment c.into_place.result c.args.loaded c.in-Ok.reply c.into_place.ensures c.in-Ok.ensures.ok

pub returns-in-Ok-clause-room : goal.returns-in-Ok-clause-room
returns-in-Ok-clause-room g c = had_room g.L.LimitsName.limits c.args.pass.now c.call.new.pass _ c.in-Ok.reply c.in-Ok.ensures.ok

pub load_refused-requires : goal.load_refused-requires
load_refused-requires g c = load_comes_back g.L.LimitsName.limits c.args.pass.now c.call.new.pass c.args.moment c.args.loaded c.in-Err.refused c.in-Err.ensures.err

pub returns-in-Err-clause-err : goal.returns-in-Err-clause-err
returns-in-Err-clause-err g c = c.load_refused.ensures g.L.LimitsName.limits c.args.pass.now c.call.new.pass c.args.moment c.args.loaded c.in-Err.ensures.err
