use Rattle.std.proofs.Common.{Option, ap, ◌∙◌, arith}
use Rattle.dbus_values.specs.Opened.{Open, is_variant}
use Rattle.dbus_values.proofs.Stack.{seen_below, seen_one}
use Rattle.dbus_values.proofs.frames.Frames.is_in_variant.Goals as goal

pub returns-then-self-gt1 : goal.returns-then-self-gt1
returns-then-self-gt1 c = rw (← c.self.view_is) (c.is_variant.ensures ∙ ap (λ (o : Option Open). is_variant o) (seen_below c.self.inside.len c.self.inside.frames _ (omega arith) (omega arith)))

pub returns-else-self-gt1 : goal.returns-else-self-gt1
returns-else-self-gt1 c = rw (← c.self.view_is) (seen_one c.self.inside.len c.self.inside.frames (omega arith) (omega arith))
