use Rattle.std.proofs.Common.{◌≡◌, ◌-◌}
use Rattle.dbus_values.specs.Basics.{zeros}
use Rattle.dbus_values.proofs.basics.zeros.Given as goal

abbrev pub invariant-loop-i : goal.invariant-loop-i
invariant-loop-i l = zeros (l.n - l.i) l.here.at l.here.rest.now ≡ zeros l.n l.from.at l.from.rest.now
