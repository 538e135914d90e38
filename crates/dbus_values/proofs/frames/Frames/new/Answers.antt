use Rattle.std.proofs.Common.{refl, arith}
use Rattle.dbus_values.specs.declared.frames.Frame.TheVariants as frame
use Rattle.dbus_values.proofs.Stack.{within_new}
use Rattle.dbus_values.proofs.Stretches.{members_new}
use Rattle.dbus_values.proofs.frames.Frames.new.Goals as goal

pub invariant_of-result : goal.invariant_of-result
invariant_of-result c = (omega arith, refl, λ i d lt. within_new 64 frame.Members tt i d lt, members_new 64 0)
