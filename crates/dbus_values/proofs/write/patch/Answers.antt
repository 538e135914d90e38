use Rattle.dbus_values.proofs.Writing.{patched}
use Rattle.dbus_values.proofs.write.patch.Goals as goal

pub returns : goal.returns
returns c = record { exact = patched c.args.out.now.items c.args.at c.to_le_bytes-bytes.result _ _ _ _ c.requires c.to_le_bytes-bytes.ensures }
