use Rattle.authority_laws.proofs.Tracing.{access}
use Rattle.authority_laws.proofs.licence.every_yes_is_licensed.Goals as goal

pub returns : goal.returns
returns c = record { access = access }
