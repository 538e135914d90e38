use Rattle.std.proofs.Common.{◌≡◌, ◌+◌, length}
use Rattle.dbus_values.specs.Walk.{resume}
use Rattle.dbus_values.proofs.walk.close_variants.Given as goal

abbrev pub invariant-loop-i : goal.invariant-loop-i
invariant-loop-i l = (resume l.frames l.here l.at ≡ resume l.fn.frames l.fn.types l.at) × (length l.frames + l._i ≡ length l.fn.frames)
