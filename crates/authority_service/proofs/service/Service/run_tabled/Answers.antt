use Rattle.std.proofs.Common.{List, refl, subst, sym}
use Rattle.authority_model.specs.declared.journal.Item.{Item}
use Rattle.authority_service.specs.Beginning.{BeginsWith}
use Rattle.authority_service.proofs.Closing.{short_none}
use Rattle.authority_service.proofs.RunsEnd.{closed_run, fits_same, within_same}
use Rattle.authority_service.proofs.service.Service.run_tabled.Goals as goal

pub returns-in_default : goal.returns-in_default
returns-in_default g c = record { runs = short_none c.args.self.now.plan.now _ _ _ _ refl }

pub returns-in-Ok-prepare : goal.returns-in-Ok-prepare
returns-in-Ok-prepare g c = record { runs = c.run_prepared.ensures.runs c.args.first c.prepare.ensures.begins }

pub returns-in-Err-NoMemory : goal.returns-in-Err-NoMemory
returns-in-Err-NoMemory g c = record { runs = short_none c.args.self.now.plan.now _ _ _ _ refl }

pub returns-in-Err-Ended : goal.returns-in-Err-Ended
returns-in-Err-Ended g c =
    let e = c.closed.ensures in
    let plan = c.args.self.now.plan.now in
    record {
      runs = closed_run plan c.args.first _ c.closed.result.authority.history c.closed.result.slots.items c.closed.result.cause c.in-Err-Ended.cause
          e.legal (within_same plan.limits g.L.LimitsName.limits _ c.requires.limits e.within) (subst (λ (l : List Item). BeginsWith c.args.first l) (sym e.journal) c.prepare.ensures.begins) refl e.slots e.cause
          (fits_same plan.limits g.L.LimitsName.limits c.in-Err-Ended.cause _ c.requires.limits e.fits);
    }
