use Rattle.history_lock.proofs.Prefixes.{prefix_trans}
use Rattle.service_slots.proofs.Fresh.{learned_prefix}
use Rattle.service_slots.proofs.beside.stop_loader.Goals as goal

pub returns-in-Err-clause-grows : goal.returns-in-Err-clause-grows
returns-in-Err-clause-grows g c =
    prefix_trans c.args.control.now.history c.submit.new.pass.history c.end.new.pass.history c.submit.ensures.grows (learned_prefix c.submit.new.pass c.end.new.pass c.end.ensures.learned)
