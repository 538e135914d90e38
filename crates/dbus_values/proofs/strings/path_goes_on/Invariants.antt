use Rattle.std.proofs.Common.{◌≡◌, drop}
use Rattle.dbus_values.specs.Basics.{path_goes_on}
use Rattle.dbus_values.proofs.strings.path_goes_on.Given as goal

abbrev pub invariant-loop-b : goal.invariant-loop-b
invariant-loop-b l = path_goes_on l.slash (drop l.b-index l.path) ≡ path_goes_on l.fn.slash l.path
