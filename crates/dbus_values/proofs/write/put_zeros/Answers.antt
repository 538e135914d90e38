use Rattle.std.proofs.Common.{sym}
use Rattle.std.proofs.lemmas.List.{append-nil}
use Rattle.dbus_values.proofs.Writing.{padding_none, pushed}
use Rattle.dbus_values.proofs.write.put_zeros.Goals as goal

pub loop-i-init : goal.loop-i-init
loop-i-init c = rw padding_none (sym (append-nil _))

pub loop-i-preserved : goal.loop-i-preserved
loop-i-preserved c = pushed _ _ _ c.loop-i._i c.loop-i.invariant c.in_ok-extend_from_slice.ensures.items
