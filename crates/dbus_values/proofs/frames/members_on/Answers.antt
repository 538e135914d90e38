use Rattle.std.proofs.Common.{◌≡◌, ◌-◌, refl, sym, arith}
use Rattle.dbus_values.specs.Opened.{seen}
use Rattle.dbus_values.proofs.Stack.{structure_is, members_off, with_none}
use Rattle.dbus_values.proofs.frames.members_on.Goals as goal

pub loop-i-init : goal.loop-i-init
loop-i-init c =
    let k : c.args.len - 0 ≡ c.args.len = omega arith in
    rw (k, with_none (seen c.args.len c.args.frames.now)) refl

pub loop-i-preserved : goal.loop-i-preserved
loop-i-preserved c = members_off c.args.len c.loop-i.i c.args.frames.now _ (structure_is _ (sym (c.if-not-is_structure.ensures))) (omega arith) (omega arith) c.loop-i.invariant
