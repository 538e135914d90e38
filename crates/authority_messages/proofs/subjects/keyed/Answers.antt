use Rattle.authority_messages.proofs.Building.{keyed_ok}
use Rattle.authority_messages.proofs.subjects.keyed.Goals as goal

pub returns : goal.returns
returns c = record { entry = keyed_ok c.entry.result _ _ _ _ _ c.in_ok-text.ensures.text c.in_ok-key.ensures.value c.in_ok-value.ensures.tree c.entry.ensures.tree }
