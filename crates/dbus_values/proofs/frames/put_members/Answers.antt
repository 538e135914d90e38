use Rattle.std.proofs.Common.{◌≡◌, ◌+◌, refl, sym, arith}
use Rattle.dbus_values.specs.Opened.{seen}
use Rattle.dbus_values.specs.declared.frames.Frame.TheVariants as frame
use Rattle.dbus_values.proofs.Stack.{structure_is, members_set, members_kept, within_set, with_none}
use Rattle.dbus_values.proofs.Stretches.{no_members, members_more, members_put_next}
use Rattle.dbus_values.proofs.frames.put_members.Goals.{then-not-is_structure, else-not-is_structure}
use Rattle.dbus_values.proofs.frames.put_members.Goals as goal

pub loop-i-init : goal.loop-i-init
loop-i-init c =
    let k : c.args.from + 0 ≡ c.args.from = omega arith in
    (rw (k, with_none (seen c.args.from c.args.frames.now)) refl, λ all. all, no_members c.args.from c.args.frames.now)

pub loop-i-preserved : goal.loop-i-preserved
loop-i-preserved c =
    elim c.if-not-is_structure.branch [
      | then-not-is_structure w ↦
          rw w.frames-is (
            members_set c.args.from c.loop-i.i c.loop-i.frames frame.Members (seen c.args.from c.args.frames.now) refl (omega arith) c.loop-i.invariant.0,
            λ all. within_set c.loop-i.frames (c.args.from + c.loop-i.i) frame.Members (c.loop-i.invariant.1 all) (omega arith) tt,
            members_put_next c.args.from c.loop-i.i c.loop-i.frames c.loop-i.invariant.2 (omega arith),
          )
      | else-not-is_structure w ↦
          let is = structure_is _ (sym (w.if-not-is_structure.ensures)) in
          rw w.frames-is (
            members_kept c.args.from c.loop-i.i c.loop-i.frames _ (seen c.args.from c.args.frames.now) is (omega arith) c.loop-i.invariant.0,
            λ all. c.loop-i.invariant.1 all,
            members_more c.args.from c.loop-i.i c.loop-i.frames _ c.loop-i.invariant.2 is (omega arith),
          )
    ]

pub returns-clause-members : goal.returns-clause-members
returns-clause-members c =
    let k : c.loop-i.i ≡ c.args.n = omega arith in
    λ i d at_least below. c.loop-i.invariant.2 i d at_least (omega (arith, below, k))
