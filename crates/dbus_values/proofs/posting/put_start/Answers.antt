use Rattle.dbus_values.proofs.Writing.{on_ok}
use Rattle.dbus_values.proofs.Sending.{start_put}
use Rattle.dbus_values.proofs.posting.put_start.Goals as goal

pub returns : goal.returns
returns c = record { exact = on_ok c.put_u32-3.result (λ written. start_put c.args.message.now.kind c.args.message.now.flags c.args.serial _ _ _ _ _ c.in_ok-extend_from_slice.ensures.items c.in_ok-put_u32.ensures.exact c.in_ok-put_u32-2.ensures.exact written) c.put_u32-3.ensures.exact }
