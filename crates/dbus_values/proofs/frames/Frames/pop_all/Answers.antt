use Rattle.std.proofs.Common.{◌≤◌, length, arith}
use Rattle.dbus_values.specs.Opened.{seen}
use Rattle.dbus_values.proofs.Stack.{seen_drop, length-seen}
use Rattle.dbus_values.proofs.frames.Frames.pop_all.Goals as goal

pub returns : goal.returns
returns c =
    let k : c.args.n ≤ length (seen c.self.inside.len c.self.inside.frames) = rw c.self.view_is c.requires.open in
    rw (← c.self.view_is) (record { outer = seen_drop c.args.n c.self.inside.len c.self.inside.frames (omega (arith, k, length-seen c.self.inside.len c.self.inside.frames (omega arith))) (omega arith) })
