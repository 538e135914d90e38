use Rattle.shared_authority.proofs.Entering.{had_room, unlist_placed, was_unlisted}
use Rattle.shared_authority.proofs.shared.Shared.submit_unlist.Goals as goal

pub into_place-requires : goal.into_place-requires
into_place-requires g c = let a = c.in-Ok.ensures.ok in unlist_placed c.args.pass.now.number c.args.moment c.args.pid c.args.start a.learned.grown.before a.entry c.in-Ok.reply a.given.gives

pub returns-in-Ok-clause-ok : goal.returns-in-Ok-clause-ok
returns-in-Ok-clause-ok g c = was_unlisted g.L.LimitsName.limits c.args.pass.now c.call.new.pass c.args.moment c.args.pid c.args.start c.into_place.result c.in-Ok.reply c.into_place.ensures c.in-Ok.ensures.ok

pub returns-in-Ok-clause-room : goal.returns-in-Ok-clause-room
returns-in-Ok-clause-room g c = had_room g.L.LimitsName.limits c.args.pass.now c.call.new.pass _ c.in-Ok.reply c.in-Ok.ensures.ok

pub returns-in-Err-clause-err : goal.returns-in-Err-clause-err
returns-in-Err-clause-err g c = c.unlist_refused.ensures g.L.LimitsName.limits c.args.pass.now c.call.new.pass c.args.moment c.args.pid c.args.start c.in-Err.ensures.err
