use Rattle.std.proofs.Common.{ap}
use Rattle.authority_model.specs.Details.{keep_detail}
use Rattle.authority_messages.proofs.Told.{detail_ok}
use Rattle.authority_messages.proofs.details.add_keep.Goals as goal

pub returns-in_ok-value : goal.returns-in_ok-value
returns-in_ok-value c = record { ok = detail_ok c.add_detail.result _ _ _ _ _ _ c.in_ok-value.ensures.text (ap keep_detail c.if-keep.true) c.add_detail.ensures.ok }
