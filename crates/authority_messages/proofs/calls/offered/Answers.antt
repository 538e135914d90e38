use Rattle.std.proofs.Common.{refl}
use Rattle.authority_messages.proofs.Building.{array_ok}
use Rattle.authority_messages.proofs.Signatures.{identity_item}
use Rattle.authority_messages.proofs.calls.offered.Goals as goal

pub array-requires : goal.array-requires
array-requires c = record { plain = refl; item = identity_item }

pub returns : goal.returns
returns c = record { value = array_ok c.array.result _ _ 4 _ c.in_ok-items.ensures.items c.array.ensures.value }
