use Rattle.std.proofs.Common.{arith}
use Rattle.dbus_values.proofs.Stack.{seen_top}
use Rattle.dbus_values.proofs.frames.Frames.top.Goals as goal

pub returns-else-self-eq0-clause-innermost : goal.returns-else-self-eq0-clause-innermost
returns-else-self-eq0-clause-innermost c = rw (← c.self.view_is) (seen_top _ c.self.inside.frames _ (omega arith) (omega arith))

pub returns-else-self-eq0-clause-within : goal.returns-else-self-eq0-clause-within
returns-else-self-eq0-clause-within c = c.self.invariant.2 _ _ (omega arith)
