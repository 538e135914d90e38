use Rattle.std.proofs.Common.{◌≤◌, ◌+◌, length, arith}
use Rattle.dbus_values.specs.Opened.{seen}
use Rattle.dbus_values.proofs.Stack.{length-seen}
use Rattle.dbus_values.proofs.Stretches.{members_seen}
use Rattle.dbus_values.proofs.frames.Frames.push_members.Goals.{then-not-holds, else-not-holds}
use Rattle.dbus_values.proofs.frames.Frames.push_members.Goals as goal

pub returns : goal.returns
returns c =
    let room : length (seen c.self.inside.len c.self.inside.frames) + c.args.n ≤ 64 = rw c.self.view_is c.requires.room in
    let fits : c.self.inside.len + c.args.n ≤ length c.self.inside.frames = omega (arith, room, length-seen c.self.inside.len c.self.inside.frames (omega arith)) in
    rw (← c.self.view_is) (
    elim c.if-not-holds.branch [
      | then-not-holds w ↦ rw w.self-inside-is (record { opened = w.put_members.ensures.put })
      | else-not-holds w ↦
          let h = c.holds.ensures w.if-not-holds.false in
          rw w.self-inside-is (record { opened = members_seen c.self.inside.len c.args.n c.self.inside.frames (λ i d at_least below. c.self.invariant.3 i d (omega (arith, h.0, at_least)) (omega (arith, h.1, below))) fits })
    ]
    )
