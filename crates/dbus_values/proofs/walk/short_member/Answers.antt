use Rattle.std.proofs.Common.{arith}
use Rattle.dbus_values.specs.Walk.{state}
use Rattle.dbus_values.proofs.Short.{member_rules}
use Rattle.dbus_values.proofs.walk.short_member.Goals as goal

pub returns-clause-exact : goal.returns-clause-exact
returns-clause-exact c = λ big. (state c.pop.new.self c.behind_first-walk.result.now c.args.walk.now.here.at c.args.walk.now.here.rest.now, grind (arith, member_rules), c.more_ended-more.ensures.run c.args.limit big)
