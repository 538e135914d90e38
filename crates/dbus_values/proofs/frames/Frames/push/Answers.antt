use Rattle.std.proofs.Common.{◌<◌, arith, length}
use Rattle.std.proofs.Math.ListN.{length-set}
use Rattle.dbus_values.proofs.Stack.{length-seen, seen_set, within_set}
use Rattle.dbus_values.specs.Opened.{seen}
use Rattle.dbus_values.proofs.Stretches.{members_put, structure_put}
use Rattle.dbus_values.proofs.frames.Frames.push.Goals as goal

pub bounds-self-inside-self-inside : goal.bounds-self-inside-self-inside
bounds-self-inside-self-inside c =
    let k : length (seen c.self.inside.len c.self.inside.frames) < 64 = rw c.self.view_is c.requires.room in
    omega (arith, length-seen c.self.inside.len c.self.inside.frames (omega arith))

pub invariant_of-self : goal.invariant_of-self
invariant_of-self c =
    let k : length (seen c.self.inside.len c.self.inside.frames) < 64 = rw c.self.view_is c.requires.room in
    let lt : c.self.inside.len < length c.self.inside.frames = omega (arith, length-seen c.self.inside.len c.self.inside.frames (omega arith)) in
    (omega arith, omega (arith, length-set c.self.inside.frames c.self.inside.len c.args.frame), within_set c.self.inside.frames c.self.inside.len c.args.frame c.self.invariant.2 lt c.requires.within, members_put c.self.inside.structures.from c.self.inside.structures.to _ _ c.self.inside.len c.self.inside.frames c.args.frame c.self.invariant.3 lt c.put-self-inside.ensures.others (λ at_least. structure_put _ _ c.self.inside.len _ c.is_structure.ensures c.put-self-inside.ensures.left_out at_least))

pub returns : goal.returns
returns c =
    let k : length (seen c.self.inside.len c.self.inside.frames) < 64 = rw c.self.view_is c.requires.room in
    let lt : c.self.inside.len < length c.self.inside.frames = omega (arith, length-seen c.self.inside.len c.self.inside.frames (omega arith)) in
    rw (← c.self.view_is) (record { opened = seen_set c.self.inside.len c.self.inside.frames c.args.frame lt })
