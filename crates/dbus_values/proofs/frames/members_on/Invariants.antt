use Rattle.std.proofs.Common.{◌≡◌, ◌-◌}
use Rattle.dbus_values.specs.Opened.{with_members, seen}
use Rattle.dbus_values.proofs.frames.members_on.Given as goal

abbrev pub invariant-loop-i : goal.invariant-loop-i
invariant-loop-i l = seen l.len l.frames ≡ with_members l.i (seen (l.len - l.i) l.frames)
