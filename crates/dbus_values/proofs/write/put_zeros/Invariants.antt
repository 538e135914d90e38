use Rattle.std.proofs.Common.{◌≡◌, ◌++◌}
use Rattle.dbus_values.specs.Trees.{padding}
use Rattle.dbus_values.proofs.write.put_zeros.Given as goal

abbrev pub invariant-loop-i : goal.invariant-loop-i
invariant-loop-i l = l.out.items ≡ l.fn.out.items ++ padding l._i
