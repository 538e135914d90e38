use Rattle.std.proofs.Common.{ap}
use Rattle.authority_model.specs.Details.{grant_detail}
use Rattle.authority_messages.proofs.Told.{detail_ok}
use Rattle.authority_messages.proofs.details.add_grant.Goals as goal

pub returns-in_ok-value-in-Some : goal.returns-in_ok-value-in-Some
returns-in_ok-value-in-Some c = record { ok = detail_ok c.add_detail.result _ _ _ _ _ _ c.in_ok-value-in-Some.ensures.text (ap grant_detail c.in-Some.is) c.add_detail.ensures.ok }
