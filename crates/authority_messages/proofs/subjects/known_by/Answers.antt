use Rattle.std.proofs.Common.{refl, []}
use Rattle.authority_messages.proofs.Signatures.{sv_item}
use Rattle.authority_messages.proofs.subjects.known_by.Goals as goal

pub array-requires : goal.array-requires
array-requires c = record { plain = refl; item = sv_item }

pub returns : goal.returns
returns c = record { value = λ ts items. c.structure.ensures.value 3 _ _ (c.in_ok-add.ensures.ok 3 _ (c.in_ok-dictionary.ensures.value 2 ts items) _ 0 (c.in_ok-add_plain.ensures.ok [] 0 c.no_values-members.ensures.none)) }
