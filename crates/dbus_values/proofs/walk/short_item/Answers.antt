use Rattle.std.proofs.Common.{arith}
use Rattle.dbus_values.specs.Walk.{state}
use Rattle.dbus_values.proofs.Short.{item_rules}
use Rattle.dbus_values.proofs.Repeated.{repeats_none}
use Rattle.dbus_values.proofs.walk.short_item.Goals as goal

pub returns-clause-exact : goal.returns-clause-exact
returns-clause-exact c = λ big. (state c.pop.new.self c.args.array.types.now c.args.array.behind.at c.args.array.behind.rest.now, grind (arith, item_rules), repeats_none _ _ _ _)
