-- One more slot is opened, or the station refused.
use Rattle.std.proofs.Common.{◌≡◌, ◌<◌, length, ◌/◌, ◌∷◌, ◌++◌, [], None, List, ℕ, refl, sym, subst, map, ap, ◌∙◌, arith, rules, slice_index_or}
use Rattle.std.proofs.lemmas.Nat.{div_below}
use Rattle.std.proofs.lemmas.List.{get_or_read}
use Rattle.command_line.specs.declared.door.DoorPath.{DoorPath}
use Rattle.service_slots.specs.declared.slot.Slot.{Slot}
use Rattle.service_slots.specs.Doors.{made_of}
use Rattle.service_slots.specs.Served.{SlotOf}
use Rattle.authority_service.specs.Places.{OpensFirst, no_path}
use Rattle.authority_service.specs.Service.{slots_of}
use Rattle.authority_service.proofs.Closing.{short_none}
use Rattle.authority_service.proofs.Placing.{opens_more, all_more}
use Rattle.authority_service.proofs.RunsEnd.{short_opened}
use Rattle.authority_service.proofs.opening.open_slots.Goals as goal

pub returns-in_default-clause-short : goal.returns-in_default-clause-short
returns-in_default-clause-short g c = short_none c.args.plan.now _ _ _ _ refl

pub loop-index-preserved : goal.loop-index-preserved
loop-index-preserved g c =
    let plan = c.args.plan.now in
    let before = c.loop-index.invariant in
    let slot = c.in-Ok-open_slot.slot in
    let opened = c.in-Ok-open_slot.ensures in
    let slots = c.loop-index.slots.items in
    let now = c.push_reserved.new.self.items in
    let index = c.loop-index.index in
    let each = plan.slots in
    let path = c.index-paths-index.result in
    let pushed : now ≡ slots ++ slot ∷ [] = c.push_reserved.ensures.items in
    let some : 0 < each = c.requires.allowed.slot in
    let here : path ≡ slice_index_or plan.doors (index / each) no_path =
    get_or_read c.as_slice-paths.result.now (index / each) path (div_below index each (length c.as_slice-paths.result.now) some c.loop-index-test.true) c.index-paths-index.is no_path
    ∙ ap (λ (paths : List DoorPath). slice_index_or paths (index / each) no_path) c.as_slice-paths.ensures.items in
    let door = opened.door in
    record {
      length = search (rules, arith);
      passes = search (rules, arith);
      room = search (rules, arith);
      shut = before.shut;
      doors = opens_more plan.doors each index plan.live (g.N.Station.told c.args.station.now) (g.N.Station.told c.loop-index.station) (g.N.Station.told c.open_slot.new.station) (λ s. made_of (g.N.Door.Door.told s.door)) slots now slot path before.doors pushed here door;
      slots = λ station H told.
          let (old, old_is, made, left) = door.where_told station told in
          all_more slots now slot (λ (s : Slot g.row.L.Denot g.row.T.Denot g.row.N-Door.Denot g.row.N-Clock.Denot g.row.N-Salt.Denot g.row.N-Sights.Denot g.row.N-Door-Link.Denot g.row.N-Door-Link-In.Denot g.row.N-Door-Link-Out.Denot g.L.LimitsName). SlotOf H (g.N.Door.Door.owner s.door) (g.N.Door.Door.told s.door) (g.N.Clock.Clock.gave s.clock) (g.N.Salt.Salt.gave s.salt) s.lines.items) pushed (before.slots old H old_is) (opened.slot station H told);
      new = all_more slots now slot (λ (s : Slot g.row.L.Denot g.row.T.Denot g.row.N-Door.Denot g.row.N-Clock.Denot g.row.N-Salt.Denot g.row.N-Sights.Denot g.row.N-Door-Link.Denot g.row.N-Door-Link-In.Denot g.row.N-Door-Link-Out.Denot g.L.LimitsName). (s.lines.items ≡ []) × (s.stop ≡ None) × (g.N.Door.Door.faults s.door ≡ 0)) pushed before.new (opened.new.1, opened.new.2, opened.new.3);
      quiet = opened.cause.quiet ∙ before.quiet;
    }

pub returns-in-Err-clause-short : goal.returns-in-Err-clause-short
returns-in-Err-clause-short g c =
    let before = c.loop-index.invariant in
    let s = c.shut_slots in
    let refused = c.in-Err.ensures.refused in
    let slots = c.loop-index.slots.items in
    rw c.by.ensures.why (short_opened c.args.plan.now c.loop-index.index (g.N.Station.told c.args.station.now) (g.N.Station.told c.loop-index.station) (g.N.Station.told c.open_slot.new.station) (g.N.Station.told s.new.station)
    (g.N.Station.faults c.args.station.now) (g.N.Station.faults c.loop-index.station) (g.N.Station.faults c.open_slot.new.station) (g.N.Station.faults s.new.station)
    (λ s. g.N.Door.Door.told s.door) (λ s. s.lines.items) slots s.new.shut.items c.loop-index.parts.control s.new.control c.in-Err.refused
    before.doors refused s.ensures.doors s.ensures.lines (λ i d lt. (before.new i d lt).0)
    (λ mid told none. s.ensures.slots (λ i d lt. before.slots mid (slice_index_or slots i d).pass.history (sym refused ∙ told) i d lt) none)
    (let quiet = before.quiet in omega (arith, quiet)) c.in-Err.ensures.cause.refused s.ensures.later)

pub shut_slots-requires-clause-none : goal.shut_slots-requires-clause-none
shut_slots-requires-clause-none g c κs within = c.loop-index.invariant.shut.0

pub shut_slots-requires-clause-room : goal.shut_slots-requires-clause-room
shut_slots-requires-clause-room g c κs within =
    let many = c.loop-index.invariant.length in
    let room = c.loop-index.invariant.shut.1 in
    let more = c.loop-index-test.true in
    omega (arith, many, room, more)

pub returns-clause-doors : goal.returns-clause-doors
returns-clause-doors g c =
    let plan = c.args.plan.now in
    let many : c.loop-index.index ≡ slots_of plan = search (rules, arith) in
    subst (λ (n : ℕ). OpensFirst plan.doors plan.slots n plan.live (g.N.Station.told c.args.station.now) (g.N.Station.told c.loop-index.station)
    (map (λ (s : Slot g.row.L.Denot g.row.T.Denot g.row.N-Door.Denot g.row.N-Clock.Denot g.row.N-Salt.Denot g.row.N-Sights.Denot g.row.N-Door-Link.Denot g.row.N-Door-Link-In.Denot g.row.N-Door-Link-Out.Denot g.L.LimitsName). made_of (g.N.Door.Door.told s.door)) c.loop-index.slots.items)) many c.loop-index.invariant.doors
