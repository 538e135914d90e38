use Rattle.authority_service.proofs.FirstLoad.{begun_learned}
use Rattle.authority_service.proofs.admitting.admit_one.Goals as goal

pub returns-in-Ok-clause-begun : goal.returns-in-Ok-clause-begun
returns-in-Ok-clause-begun g c = begun_learned c.args.zero.now c.admit.new.pass c.requires.begun c.admit.ensures.learned

pub returns-in-Err-Full-clause-begun : goal.returns-in-Err-Full-clause-begun
returns-in-Err-Full-clause-begun g c =
    begun_learned c.admit.new.pass c.end-cause.new.pass (begun_learned c.args.zero.now c.admit.new.pass c.requires.begun c.admit.ensures.learned) c.end-cause.ensures.learned
