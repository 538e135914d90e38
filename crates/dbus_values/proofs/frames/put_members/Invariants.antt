use Rattle.std.proofs.Common.{◌≡◌, ◌+◌}
use Rattle.dbus_values.specs.Opened.{with_members, seen, AllWithin, AllMembers}
use Rattle.dbus_values.proofs.frames.put_members.Given as goal

abbrev pub invariant-loop-i : goal.invariant-loop-i
invariant-loop-i l = (seen (l.from + l.i) l.frames ≡ with_members l.i (seen l.from l.fn.frames)) × (AllWithin l.fn.frames → AllWithin l.frames) × AllMembers l.from (l.from + l.i) l.frames
