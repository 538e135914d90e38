use Rattle.std.proofs.Common.{refl}
use Rattle.authority_service.proofs.Closing.{short_none}
use Rattle.authority_service.proofs.service.Service.run.Goals as goal

pub returns-in_default : goal.returns-in_default
returns-in_default g c = record { runs = short_none c.args.self.now.plan.now _ _ _ _ refl }
