use Rattle.std.proofs.Common.{sym, arith}
use Rattle.dbus_values.proofs.Stack.{with_none, members_drop, plain_around, none_around}
use Rattle.dbus_values.proofs.frames.Frames.members.Goals as goal

pub returns-then-n-self-clause-outer : goal.returns-then-n-self-clause-outer
returns-then-n-self-clause-outer c = rw (← c.self.view_is) (members_drop c.innermost_members-n.result c.self.inside.len c.self.inside.frames (omega arith) (omega arith) c.innermost_members-n.ensures.exact)

pub returns-then-n-self-clause-plain : goal.returns-then-n-self-clause-plain
returns-then-n-self-clause-plain c = rw (← c.self.view_is) (λ some. none_around c.innermost_members-n.result c.self.inside.len c.self.inside.frames c.if-n-self.true (omega arith))

pub returns-then-is_variant-clause-outer : goal.returns-then-is_variant-clause-outer
returns-then-is_variant-clause-outer c = sym (with_none _)

pub returns-clause-outer : goal.returns-clause-outer
returns-clause-outer c = rw (← c.self.view_is) (members_drop c.innermost_members-n.result c.self.inside.len c.self.inside.frames (omega arith) (omega arith) c.innermost_members-n.ensures.exact)

pub returns-clause-plain : goal.returns-clause-plain
returns-clause-plain c = rw (← c.self.view_is) (λ some. plain_around c.innermost_members-n.result c.self.inside.len c.self.inside.frames _ (omega arith) (omega arith) (sym c.if-is_variant.ensures))
