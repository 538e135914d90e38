use Rattle.authority_messages.proofs.Building.{add_ok}
use Rattle.client_messages.proofs.arguments.add_subject.Goals as goal

pub returns : goal.returns
returns c = record { ok = add_ok _ _ _ _ _ c.add.result c.in_ok-value.ensures.value c.add.ensures.ok }
