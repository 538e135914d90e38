use Rattle.std.proofs.Common.{◌≡◌}
use Rattle.service_slots.specs.Doors.{made_of}
use Rattle.service_slots.specs.Served.{SlotOf}
use Rattle.service_slots.specs.Stops.{NoneEnded}
use Rattle.service_slots.proofs.slots.serve_slot.Given as goal

abbrev pub invariant-loop : goal.invariant-loop
invariant-loop g l =
    record {
      next : (goal.iterator-loop g).can_next l.iterator';
      finite : (goal.iterator-loop g).is_finite l.iterator';
      slot : SlotOf l.initial.slot.pass.history (g.D.Door.owner l.initial.slot.door) (g.D.Door.told l.initial.slot.door) (g.C.Clock.gave l.initial.slot.clock) (g.S.Salt.gave l.initial.slot.salt) l.initial.slot.lines.items
          → SlotOf l.slot.pass.history (g.D.Door.owner l.slot.door) (g.D.Door.told l.slot.door) (g.C.Clock.gave l.slot.clock) (g.S.Salt.gave l.slot.salt) l.slot.lines.items;
      door : made_of (g.D.Door.told l.slot.door) ≡ made_of (g.D.Door.told l.initial.slot.door);
      none_ended : NoneEnded l.slot.lines.items;
      counts : g.D.Door.faults l.slot.door ≡ g.D.Door.faults l.initial.slot.door;
    }
