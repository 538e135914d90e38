use Rattle.std.proofs.Common.{sym, arith}
use Rattle.dbus_values.proofs.Stack.{length-seen}
use Rattle.dbus_values.proofs.frames.Frames.len.Goals as goal

pub returns : goal.returns
returns c = rw (← c.self.view_is) (record { length = sym (length-seen _ _ (omega arith)) })
