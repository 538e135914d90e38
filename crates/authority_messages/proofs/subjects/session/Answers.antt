use Rattle.authority_messages.specs.Values.{string}
use Rattle.authority_messages.proofs.Building.{one_at}
use Rattle.authority_messages.proofs.Signatures.{s_sig, s_one}
use Rattle.authority_messages.proofs.subjects.session.Goals as goal

pub returns : goal.returns
returns c = record { value = one_at c.known_by_one.result _ _ _ (string c.args.id.now) s_sig s_one c.in_ok-id.ensures.value c.known_by_one.ensures.value }
