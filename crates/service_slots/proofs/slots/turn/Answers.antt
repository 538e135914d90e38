use Rattle.std.proofs.Common.{refl}
use Rattle.service_slots.proofs.Growing.{slot_longer, slot_named}
use Rattle.service_slots.proofs.slots.turn.Goals as goal

pub returns-in-Ok-clause-slot : goal.returns-in-Ok-clause-slot
returns-in-Ok-clause-slot g c was =
    let s = c.args.slot.now in
    let more = c.admit_connection.new.slot.history in
    let owner = g.D.Door.owner s.door in
    let longer = slot_longer s.pass.history more owner (g.D.Door.told s.door) (g.C.Clock.gave s.clock) (g.S.Salt.gave s.salt) s.lines.items c.admit_connection.ensures.grows was in
    c.serve_next.ensures.slot (slot_named more owner owner (g.D.Door.told s.door) (g.C.Clock.gave s.clock) (g.S.Salt.gave s.salt) s.lines.items c.reserve.new.self.items longer refl c.reserve.ensures.items)

pub returns-in-Err-clause-slot : goal.returns-in-Err-clause-slot
returns-in-Err-clause-slot g c was =
    let s = c.args.slot.now in
    let more = c.admit_connection.new.slot.history in
    let owner = g.D.Door.owner s.door in
    let longer = slot_longer s.pass.history more owner (g.D.Door.told s.door) (g.C.Clock.gave s.clock) (g.S.Salt.gave s.salt) s.lines.items c.admit_connection.ensures.grows was in
    slot_named more owner owner (g.D.Door.told s.door) (g.C.Clock.gave s.clock) (g.S.Salt.gave s.salt) s.lines.items c.reserve.new.self.items longer refl c.reserve.ensures.items
