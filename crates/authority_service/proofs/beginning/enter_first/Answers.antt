use Rattle.authority_service.proofs.FirstLoad.{begins_entered, begun_entered}
use Rattle.authority_service.proofs.beginning.enter_first.Goals as goal

pub returns-in-Ok-clause-begins : goal.returns-in-Ok-clause-begins
returns-in-Ok-clause-begins g c = begins_entered c.args.first c.args.zero.now c.submit_load.new.pass c.in-Ok._place c.requires.zero c.requires.new c.in-Ok.ensures.ok

pub returns-in-Ok-clause-begun : goal.returns-in-Ok-clause-begun
returns-in-Ok-clause-begun g c = begun_entered c.args.first c.args.zero.now c.submit_load.new.pass c.in-Ok._place c.requires.zero c.requires.new c.in-Ok.ensures.ok
