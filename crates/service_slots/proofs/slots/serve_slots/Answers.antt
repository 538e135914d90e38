use Rattle.std.proofs.Common.{sym, subst, rules, ap, ◌∙◌}
use Rattle.service_slots.specs.declared.slot.Slot.{Slot}
use Rattle.service_slots.specs.Doors.{made_of}
use Rattle.service_slots.specs.Stops.{NoneEnded}
use Rattle.service_slots.proofs.Same.{map_same}
use Rattle.service_slots.proofs.slots.serve_slots.Goals as goal

pub for_each_mut-requires-clause-accepts : goal.for_each_mut-requires-clause-accepts
for_each_mut-requires-clause-accepts g c κs within i p lt is =
    let none = subst (λ (s : Slot g.row.L.Denot g.row.T.Denot g.row.D.Denot g.row.C.Denot g.row.S.Denot g.row.G.Denot g.row.D-Link.Denot g.row.D-Link-In.Denot g.row.D-Link-Out.Denot g.L.LimitsName). NoneEnded s.lines.items) (sym is) (c.requires.none_ended i p.now lt) in
    let bounds = c.type_bounds in
    ((search rules, search rules, search rules, search (rules, bounds.send-L.owned, bounds.send-L.leaving), search (rules, bounds.send-T.owned, bounds.send-T.leaving), search (rules, bounds.send-D.owned, bounds.send-D.leaving), search (rules, bounds.send-C.owned, bounds.send-C.leaving), search (rules, bounds.send-S.owned, bounds.send-S.leaving), search (rules, bounds.send-G.owned, bounds.send-G.leaving), search (rules, bounds.send-D-Link.owned, bounds.send-D-Link.leaving), search (rules, bounds.send-D-Link-In.owned, bounds.send-D-Link-In.leaving), search (rules, bounds.send-D-Link-Out.owned, bounds.send-D-Link-Out.leaving), c.requires.may, none), (search (rules, bounds.send-L.owned, bounds.send-L.leaving), search (rules, bounds.send-T.owned, bounds.send-T.leaving), search (rules, bounds.send-D.owned, bounds.send-D.leaving), search (rules, bounds.send-C.owned, bounds.send-C.leaving), search (rules, bounds.send-S.owned, bounds.send-S.leaving), search (rules, bounds.send-G.owned, bounds.send-G.leaving), search (rules, bounds.send-D-Link.owned, bounds.send-D-Link.leaving), search (rules, bounds.send-D-Link-In.owned, bounds.send-D-Link-In.leaving), search (rules, bounds.send-D-Link-Out.owned, bounds.send-D-Link-Out.leaving), search rules, search rules, search rules))

pub returns-then-count-gt0-clause-doors : goal.returns-then-count-gt0-clause-doors
returns-then-count-gt0-clause-doors g c =
    let made = λ (s : Slot g.row.L.Denot g.row.T.Denot g.row.D.Denot g.row.C.Denot g.row.S.Denot g.row.G.Denot g.row.D-Link.Denot g.row.D-Link-In.Denot g.row.D-Link-Out.Denot g.L.LimitsName). made_of (g.D.Door.told s.door) in
    map_same made c.args.slots.now c.for_each_mut.new.s c.for_each_mut.auto.s
    (λ i d lt. let at = (c.for_each_mut.ensures i d lt).1 in sym (ap made at.left) ∙ (at.call.1.0 ∙ ap made at.argument_is))
