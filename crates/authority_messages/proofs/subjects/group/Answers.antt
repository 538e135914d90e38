use Rattle.std.proofs.Common.{false, arith}
use Rattle.authority_messages.specs.Values.{uint32}
use Rattle.authority_messages.proofs.Building.{one_at, uint32_built}
use Rattle.authority_messages.proofs.Signatures.{u_sig, u_one}
use Rattle.authority_messages.proofs.subjects.group.Goals as goal

pub returns : goal.returns
returns c = record { value = one_at c.known_by_one.result _ _ _ (uint32 c.args.gid) u_sig u_one (uint32_built false c.args.gid (omega arith)) c.known_by_one.ensures.value }
