use Rattle.authority_messages.proofs.Building.{string_copied}
use Rattle.authority_messages.proofs.values.string.Goals as goal

pub returns : goal.returns
returns c = record { value = string_copied _ _ _ c.in_ok-text.ensures.text c.bytes.ensures.bytes c.bytes.ensures.text }
