use Rattle.authority_messages.proofs.Building.{added_ok}
use Rattle.authority_messages.proofs.values.add.Goals as goal

pub returns : goal.returns
returns c = record { ok = added_ok c.args.values.now c.try_push.new.self c.args.value c.try_push.result c.try_push.ensures.ok }
