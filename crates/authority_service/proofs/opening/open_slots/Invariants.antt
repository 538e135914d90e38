-- So many slots were opened.
use Rattle.std.proofs.Common.{◌≡◌, ◌+◌, ◌≤◌, [], None, Some, List, vec_len}
use Rattle.std.specs.Prelude.{All, map}
use Rattle.std.specs.Vec.{vec_capacity}
use Rattle.authority_model.specs.declared.journal.Item.{Item}
use Rattle.pk_outside.specs.Stations.{StationTold}
use Rattle.authority_service.specs.Places.{OpensFirst}
use Rattle.service_slots.specs.Doors.{made_of}
use Rattle.service_slots.specs.Served.{SlotOf}
use Rattle.authority_service.proofs.opening.open_slots.Given as goal

abbrev pub invariant-loop-index : goal.invariant-loop-index
invariant-loop-index g l = record {
  length : vec_len l.slots ≡ l.index;
  passes : vec_len l.parts.passes + l.index ≡ l.count;
  room : l.count ≤ vec_capacity l.slots;
  shut : (l.parts.shut.items ≡ []) × (l.count ≤ vec_capacity l.parts.shut);
  doors : OpensFirst l.plan.doors l.plan.slots l.index l.plan.live (g.N.Station.told l.initial.station) (g.N.Station.told l.station) (map (λ s. made_of (g.N.Door.Door.told s.door)) l.slots.items);
  slots : (now : StationTold) (H : List Item) → g.N.Station.told l.station ≡ Some now → All (λ s. SlotOf H (g.N.Door.Door.owner s.door) (g.N.Door.Door.told s.door) (g.N.Clock.Clock.gave s.clock) (g.N.Salt.Salt.gave s.salt) s.lines.items) l.slots.items;
  new : All (λ s. (s.lines.items ≡ []) × (s.stop ≡ None) × (g.N.Door.Door.faults s.door ≡ 0)) l.slots.items;
  quiet : g.N.Station.faults l.station ≡ g.N.Station.faults l.initial.station;
}
