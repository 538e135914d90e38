use Rattle.std.proofs.Common.{arith}
use Rattle.dbus_values.proofs.Loops.{zeros_take}
use Rattle.dbus_values.proofs.walk.enter_array.Goals as goal

pub split_at-requires : goal.split_at-requires
split_at-requires c = let h = zeros_take _ _ _ _ c.in_ok-start.ensures.exact in omega (arith, h.1)
