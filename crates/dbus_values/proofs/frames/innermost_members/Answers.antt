use Rattle.std.proofs.Common.{arith}
use Rattle.dbus_values.proofs.Stretches.{members_inside}
use Rattle.dbus_values.proofs.frames.innermost_members.Goals as goal

pub returns-then-holds-clause-exact : goal.returns-then-holds-clause-exact
returns-then-holds-clause-exact c =
    let h = c.holds.ensures c.if-holds.true in
    members_inside c.args.structures.from c.args.structures.to c.args.len c.min-most.result c.args.frames.now c.requires.structures h.0 h.1 (omega arith) c.requires.all
