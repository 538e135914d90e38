use Rattle.std.proofs.Common.{false}
use Rattle.authority_messages.proofs.Building.{add_ok, boolean_built}
use Rattle.authority_messages.proofs.values.add_boolean.Goals as goal

pub returns : goal.returns
returns c = record { ok = add_ok _ _ _ _ _ c.add.result (boolean_built false c.args.truth) c.add.ensures.ok }
