use Rattle.std.proofs.Common.{refl}
use Rattle.authority_messages.proofs.Building.{add_ok, string_copied}
use Rattle.authority_messages.proofs.values.add_bytes.Goals as goal

pub returns : goal.returns
returns c = record { ok = add_ok _ _ _ _ _ c.add.result (string_copied _ _ _ c.in_ok-text.ensures.text refl c.requires.text) c.add.ensures.ok }
