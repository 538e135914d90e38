use Rattle.std.proofs.Common.{arith}
use Rattle.dbus_values.specs.Walk.{state}
use Rattle.dbus_values.specs.Places.{place}
use Rattle.dbus_values.proofs.Short.{enter_rules}
use Rattle.dbus_values.proofs.Repeated.{repeats_none}
use Rattle.dbus_values.proofs.walk.short_enter.Goals as goal

pub returns-then-not-is_empty-clause-exact : goal.returns-then-not-is_empty-clause-exact
returns-then-not-is_empty-clause-exact c = λ big. (place c.byte_part.new.walk, grind (arith, enter_rules), repeats_none _ _ _ _)

pub returns-then-len-limit-clause-exact : goal.returns-then-len-limit-clause-exact
returns-then-len-limit-clause-exact c = λ big. (state c.push.new.self c.behind_first-types.result.now c.args.walk.now.here.at c.args.walk.now.here.rest.now, grind (arith, enter_rules), c.more_begun-more.ensures.run big)
