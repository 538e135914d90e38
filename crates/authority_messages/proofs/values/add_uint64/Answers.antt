use Rattle.std.proofs.Common.{false, arith}
use Rattle.authority_messages.proofs.Building.{add_ok, uint64_built}
use Rattle.authority_messages.proofs.values.add_uint64.Goals as goal

pub returns : goal.returns
returns c = record { ok = add_ok _ _ _ _ _ c.add.result (uint64_built false c.args.n (omega arith)) c.add.ensures.ok }
