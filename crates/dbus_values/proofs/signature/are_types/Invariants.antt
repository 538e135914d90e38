use Rattle.std.proofs.Common.{◌≡◌, length, ◌-◌}
use Rattle.dbus_values.specs.Signatures.{are_types}
use Rattle.dbus_values.proofs.signature.are_types.Given as goal

abbrev pub invariant-loop-i : goal.invariant-loop-i
invariant-loop-i l = are_types (length l.fn.sig - l._i) l.here ≡ are_types (length l.fn.sig) l.fn.sig
