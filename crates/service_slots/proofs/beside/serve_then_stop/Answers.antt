use Rattle.std.proofs.Common.{◌≡◌, ◌∙◌, List, ap, arith, drop, length, subst, sym}
use Rattle.std.specs.Prelude.{All, map}
use Rattle.service_slots.specs.declared.slot.Slot.{Slot}
use Rattle.service_slots.specs.Doors.{made_of}
use Rattle.service_slots.specs.Served.{SlotOf}
use Rattle.service_slots.specs.Stops.{CountsAs, IsStopped}
use Rattle.service_slots.proofs.Same.{whole_back, written_back}
use Rattle.service_slots.proofs.beside.serve_then_stop.Goals as goal

pub returns-clause-slots : goal.returns-clause-slots
returns-clause-slots g c was =
    let Done : Slot g.row.L.Denot g.row.T.Denot g.row.D.Denot g.row.C.Denot g.row.S.Denot g.row.G.Denot g.row.D-Link.Denot g.row.D-Link-In.Denot g.row.D-Link-Out.Denot g.L.LimitsName → Type 0 = λ s. SlotOf s.pass.history (g.D.Door.owner s.door) (g.D.Door.told s.door) (g.C.Clock.gave s.clock) (g.S.Salt.gave s.salt) s.lines.items in
    let now = c.serve_slots.ensures.slots (subst (λ (all : List (Slot g.row.L.Denot g.row.T.Denot g.row.D.Denot g.row.C.Denot g.row.S.Denot g.row.G.Denot g.row.D-Link.Denot g.row.D-Link-In.Denot g.row.D-Link-Out.Denot g.L.LimitsName)). All Done all) (sym c.as_mut_slice.ensures.value) was) in
    let kept : c.args.slots.now.len ≡ length c.serve_slots.new.slots = omega (arith, c.args.slots.now.ok.0, c.serve_slots.auto.slots) in
    written_back Done c.args.slots.now.len c.serve_slots.new.slots (drop (length c.serve_slots.new.slots) c.args.slots.now.items) kept now

pub returns-clause-counts : goal.returns-clause-counts
returns-clause-counts g c was =
    let Sound : Slot g.row.L.Denot g.row.T.Denot g.row.D.Denot g.row.C.Denot g.row.S.Denot g.row.G.Denot g.row.D-Link.Denot g.row.D-Link-In.Denot g.row.D-Link-Out.Denot g.L.LimitsName → Type 0 = λ s. g.D.Door.faults s.door ≡ 0 in
    let Done : Slot g.row.L.Denot g.row.T.Denot g.row.D.Denot g.row.C.Denot g.row.S.Denot g.row.G.Denot g.row.D-Link.Denot g.row.D-Link-In.Denot g.row.D-Link-Out.Denot g.L.LimitsName → Type 0 = λ s. CountsAs 0 (g.D.Door.faults s.door) s.stop in
    let now = c.serve_slots.ensures.counts (subst (λ (all : List (Slot g.row.L.Denot g.row.T.Denot g.row.D.Denot g.row.C.Denot g.row.S.Denot g.row.G.Denot g.row.D-Link.Denot g.row.D-Link-In.Denot g.row.D-Link-Out.Denot g.L.LimitsName)). All Sound all) (sym c.as_mut_slice.ensures.value) was) in
    let kept : c.args.slots.now.len ≡ length c.serve_slots.new.slots = omega (arith, c.args.slots.now.ok.0, c.serve_slots.auto.slots) in
    written_back Done c.args.slots.now.len c.serve_slots.new.slots (drop (length c.serve_slots.new.slots) c.args.slots.now.items) kept now

pub stop_loader-requires-after_bounds : goal.stop_loader-requires-after_bounds
stop_loader-requires-after_bounds g c κs within =
    let Done : Slot g.row.L.Denot g.row.T.Denot g.row.D.Denot g.row.C.Denot g.row.S.Denot g.row.G.Denot g.row.D-Link.Denot g.row.D-Link-In.Denot g.row.D-Link-Out.Denot g.L.LimitsName → Type 0 = λ s. IsStopped g.L.LimitsName.limits c.args.most s.pass (g.D.Door.told s.door) (g.D.Door.faults s.door) s.lines.items s.stop in
    let kept : c.args.slots.now.len ≡ length c.serve_slots.new.slots = omega (arith, c.args.slots.now.ok.0, c.serve_slots.auto.slots) in
    subst (λ (all : List (Slot g.row.L.Denot g.row.T.Denot g.row.D.Denot g.row.C.Denot g.row.S.Denot g.row.G.Denot g.row.D-Link.Denot g.row.D-Link-In.Denot g.row.D-Link-Out.Denot g.L.LimitsName)). All Done all) (sym c.as_slice.ensures.value) (written_back Done c.args.slots.now.len c.serve_slots.new.slots (drop (length c.serve_slots.new.slots) c.args.slots.now.items) kept c.serve_slots.ensures.stopped)

pub returns-clause-doors : goal.returns-clause-doors
returns-clause-doors g c =
    let made = map (λ (s : Slot g.row.L.Denot g.row.T.Denot g.row.D.Denot g.row.C.Denot g.row.S.Denot g.row.G.Denot g.row.D-Link.Denot g.row.D-Link-In.Denot g.row.D-Link-Out.Denot g.L.LimitsName). made_of (g.D.Door.told s.door)) in
    let kept : c.args.slots.now.len ≡ length c.serve_slots.new.slots = omega (arith, c.args.slots.now.ok.0, c.serve_slots.auto.slots) in
    ap made (whole_back c.args.slots.now.len c.serve_slots.new.slots (drop (length c.serve_slots.new.slots) c.args.slots.now.items) kept) ∙ c.serve_slots.ensures.doors ∙ ap made c.as_mut_slice.ensures.value

pub returns-clause-stopped : goal.returns-clause-stopped
returns-clause-stopped g c =
    let Done : Slot g.row.L.Denot g.row.T.Denot g.row.D.Denot g.row.C.Denot g.row.S.Denot g.row.G.Denot g.row.D-Link.Denot g.row.D-Link-In.Denot g.row.D-Link-Out.Denot g.L.LimitsName → Type 0 = λ s. IsStopped g.L.LimitsName.limits c.args.most s.pass (g.D.Door.told s.door) (g.D.Door.faults s.door) s.lines.items s.stop in
    let kept : c.args.slots.now.len ≡ length c.serve_slots.new.slots = omega (arith, c.args.slots.now.ok.0, c.serve_slots.auto.slots) in
    written_back Done c.args.slots.now.len c.serve_slots.new.slots (drop (length c.serve_slots.new.slots) c.args.slots.now.items) kept c.serve_slots.ensures.stopped
