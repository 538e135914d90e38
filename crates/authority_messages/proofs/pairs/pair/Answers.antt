use Rattle.authority_messages.proofs.Building.{entry_ok}
use Rattle.authority_messages.proofs.pairs.pair.Goals as goal

pub returns : goal.returns
returns c = record { value = entry_ok c.entry.result _ _ _ _ 0 c.in_ok-key.ensures.value c.in_ok-value.ensures.value c.entry.ensures.tree }
