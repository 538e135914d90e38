use Rattle.std.proofs.Common.{arith, length, ◌≡◌, ◌-◌}
use Rattle.dbus_values.proofs.Stack.{seen_less, length-seen}
use Rattle.dbus_values.specs.Opened.{seen}
use Rattle.dbus_values.proofs.frames.Frames.pop.Goals as goal

pub returns-then-self-gt0-clause-outer : goal.returns-then-self-gt0-clause-outer
returns-then-self-gt0-clause-outer c = rw (← c.self.view_is) (seen_less _ c.self.inside.frames c.if-self-gt0.true (omega arith))

pub returns-then-self-gt0-clause-room : goal.returns-then-self-gt0-clause-room
returns-then-self-gt0-clause-room c =
    let k : length (seen (c.self.inside.len - 1) c.self.inside.frames) ≡ c.self.inside.len - 1 = length-seen (c.self.inside.len - 1) c.self.inside.frames (omega arith) in
    omega (arith, k)
