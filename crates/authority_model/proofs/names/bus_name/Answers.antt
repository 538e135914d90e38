use Rattle.std.proofs.Common.{arith}
use Rattle.authority_model.proofs.BusNames.{bus_text}
use Rattle.authority_model.proofs.names.bus_name.Goals as goal

pub of_known-requires : goal.of_known-requires
of_known-requires c = record { text = rw (c.as_bytes.ensures.value, c.in_ok-name.ensures.ok) (bus_text c.args.caller (omega arith)) }
