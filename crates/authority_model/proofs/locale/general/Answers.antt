use Rattle.std.proofs.Common.{sym}
use Rattle.std.specs.Prelude.{◌==◌}
use Rattle.authority_model.proofs.FirstPlace.{before_first-Some, before_first-None}
use Rattle.authority_model.proofs.locale.general.Goals as goal

pub returns-in-Some : goal.returns-in-Some
returns-in-Some c = record { general = sym (before_first-Some (λ b. b == 95) c.args.language.now c.in-Some.end (sym c.in-Some.ensures.first)) }

pub returns-in-None : goal.returns-in-None
returns-in-None c = record { general = sym (before_first-None (λ b. b == 95) c.args.language.now (sym c.in-None.ensures.first)) }
