-- Some of the slots were shut, and the rest stand as they stood.
use Rattle.std.proofs.Common.{◌≡◌, ◌++◌, ◌+◌, ◌≤◌, [], List, ℕ, Option, length, vec_len}
use Rattle.std.specs.Prelude.{All, map}
use Rattle.std.specs.List.{flat_map}
use Rattle.std.specs.Vec.{vec_capacity}
use Rattle.history_lock.specs.declared.machine.TheConstants.{MOST_PASSES}
use Rattle.connection_laws.specs.Knowing.{KnowsMore}
use Rattle.pk_outside.specs.Doors.{DoorTold}
use Rattle.service_slots.specs.Doors.{DoorsAreDone}
use Rattle.service_slots.specs.Served.{SlotOf, SlotsOf}
use Rattle.service_slots.specs.Stops.{CountsAs, HasServedAll, IsStopped, StopTells}
use Rattle.authority_service.specs.Shutting.{ShutsAll}
use Rattle.authority_service.proofs.shutting.shut_slots.Given as goal

abbrev pub invariant-loop-slot : goal.invariant-loop-slot
invariant-loop-slot g l = record {
  knows : KnowsMore l.initial.control l.control;
  top : l.control.made ≤ MOST_PASSES;
  later : g.N.Station.faults l.initial.station ≤ g.N.Station.faults l.station;
  room : vec_len l.shut + length l.slot-iterator.rest.items ≤ vec_capacity l.shut;
  doors : (doors : List (Option DoorTold)) × ShutsAll (g.N.Station.told l.initial.station) (g.N.Station.told l.station) doors
      × (map (λ s. g.N.Door.Door.told s.door) l.initial.slot-iterator.rest.items ≡ doors ++ map (λ s. g.N.Door.Door.told s.door) l.slot-iterator.rest.items);
  lines : map (λ s. s.lines.items) l.initial.slot-iterator.rest.items ≡ map (λ s. s.lines.items) l.shut.items ++ map (λ s. s.lines.items) l.slot-iterator.rest.items;
  stopped : map (λ s. s.stop) l.initial.slot-iterator.rest.items ≡ map (λ s. s.stop) l.shut.items ++ map (λ s. s.stop) l.slot-iterator.rest.items;
  slots : All (λ s. SlotOf s.pass.history (g.N.Door.Door.owner s.door) (g.N.Door.Door.told s.door) (g.N.Clock.Clock.gave s.clock) (g.N.Salt.Salt.gave s.salt) s.lines.items) l.initial.slot-iterator.rest.items
      → SlotsOf l.initial.control.history (g.N.Station.told l.initial.station) []
      → All (λ s. SlotOf s.pass.history (g.N.Door.Door.owner s.door) (g.N.Door.Door.told s.door) (g.N.Clock.Clock.gave s.clock) (g.N.Salt.Salt.gave s.salt) s.lines.items) l.slot-iterator.rest.items
      × SlotsOf l.control.history (g.N.Station.told l.station) (flat_map (λ s. s.lines.items) l.shut.items);
  stops : (most : Option ℕ)
      → All (λ s. IsStopped g.L.LimitsName.limits most s.pass (g.N.Door.Door.told s.door) (g.N.Door.Door.faults s.door) s.lines.items s.stop) l.initial.slot-iterator.rest.items
      → All (λ s. IsStopped g.L.LimitsName.limits most s.pass (g.N.Door.Door.told s.door) (g.N.Door.Door.faults s.door) s.lines.items s.stop) l.slot-iterator.rest.items
      × All (λ s. StopTells g.L.LimitsName.limits most l.control (g.N.Station.faults l.initial.station) (g.N.Station.faults l.station) s.lines.items s.stop) l.shut.items;
  counts : All (λ s. CountsAs 0 (g.N.Door.Door.faults s.door) s.stop) l.initial.slot-iterator.rest.items
      → All (λ s. CountsAs 0 (g.N.Door.Door.faults s.door) s.stop) l.slot-iterator.rest.items
      × (All (λ s. HasServedAll s.stop) l.shut.items → g.N.Station.faults l.station ≡ g.N.Station.faults l.initial.station);
  done : (most : Option ℕ)
      → All (λ s. SlotOf s.pass.history (g.N.Door.Door.owner s.door) (g.N.Door.Door.told s.door) (g.N.Clock.Clock.gave s.clock) (g.N.Salt.Salt.gave s.salt) s.lines.items) l.initial.slot-iterator.rest.items
      → All (λ s. IsStopped g.L.LimitsName.limits most s.pass (g.N.Door.Door.told s.door) (g.N.Door.Door.faults s.door) s.lines.items s.stop) l.initial.slot-iterator.rest.items
      → All (λ s. SlotOf s.pass.history (g.N.Door.Door.owner s.door) (g.N.Door.Door.told s.door) (g.N.Clock.Clock.gave s.clock) (g.N.Salt.Salt.gave s.salt) s.lines.items) l.slot-iterator.rest.items
      × (All (λ s. HasServedAll s.stop) l.shut.items → DoorsAreDone most (g.N.Station.told l.initial.station) (g.N.Station.told l.station));
}
