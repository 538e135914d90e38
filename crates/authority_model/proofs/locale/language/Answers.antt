use Rattle.std.proofs.Common.{sym}
use Rattle.std.specs.Prelude.{◌==◌, ◌||◌}
use Rattle.authority_model.proofs.FirstPlace.{before_first-Some, before_first-None}
use Rattle.authority_model.proofs.locale.language.Goals as goal

pub returns-in-Some : goal.returns-in-Some
returns-in-Some c = record { language = sym (before_first-Some (λ b. (b == 46) || (b == 64)) c.args.locale.now c.in-Some.end (sym c.in-Some.ensures.first)) }

pub returns-in-None : goal.returns-in-None
returns-in-None c = record { language = sym (before_first-None (λ b. (b == 46) || (b == 64)) c.args.locale.now (sym c.in-None.ensures.first)) }
