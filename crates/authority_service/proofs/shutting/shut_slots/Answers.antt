-- One more slot is shut, and in the end all are.
use Rattle.std.proofs.Common.{◌≡◌, ◌++◌, ◌∷◌, [], All, List, Option, flat_map, refl, sym, subst, arith, rules}
use Rattle.std.proofs.lemmas.List.{nil_from_length}
use Rattle.std.proofs.lemmas.List.Elements.{All-nil, All-same}
use Rattle.connection_laws.proofs.Growing.{knows_self, knows_trans, knows_learned}
use Rattle.pk_outside.specs.Doors.{DoorTold}
use Rattle.service_slots.specs.declared.line.Line.{Line}
use Rattle.service_slots.specs.declared.slot.Slot.{Slot}
use Rattle.service_slots.specs.declared.opening.ShutSlot.{ShutSlot}
use Rattle.service_slots.specs.Served.{SlotOf, SlotsOf}
use Rattle.service_slots.specs.Stops.{CountsAs, IsStopped, StopTells}
use Rattle.authority_service.specs.Shutting.{ShutsAll}
use Rattle.authority_service.proofs.ShutDoors.{counts_next, done_next, done_none, shuts_none, shuts_next, next_of, moved_on, moved_to, moved_all, lines_next, stops_next}
use Rattle.authority_service.proofs.shutting.shut_slots.Goals as goal

pub loop-slot-init : goal.loop-slot-init
loop-slot-init g c =
    let control = c.args.control.now in
    let told = g.N.Station.told c.args.station.now in
    let none = c.requires.none in
    record {
      knows = knows_self control c.number-number.ensures.legal;
      top = c.number-number.ensures.top;
      later = omega arith;
      room = search (rules, arith);
      doors = ([], shuts_none told, refl);
      lines = search rules;
      stopped = search rules;
      slots = λ all was. (all, subst (λ (l : List ShutSlot). SlotsOf control.history told (flat_map (λ (s : ShutSlot). s.lines.items) l)) (sym {A = List ShutSlot} none) was);
      stops = λ most all. (all, subst (λ (l : List ShutSlot). All (λ (s : ShutSlot). StopTells g.L.LimitsName.limits most control (g.N.Station.faults c.args.station.now) (g.N.Station.faults c.args.station.now) s.lines.items s.stop) l) (sym {A = List ShutSlot} none) (All-nil _));
      counts = λ all. (all, λ served. refl);
      done = λ most all stopped. (all, λ served. done_none most told);
    }

pub loop-slot-preserved : goal.loop-slot-preserved
loop-slot-preserved g c =
    let before = c.loop-slot.invariant in
    let one = c.shut_slot-one in
    let slot = c.in-Some.slot in
    let done = c.loop-slot.shut.items in
    let left = c.loop-slot.slot-iterator.rest.items in
    let others = c.next.new.self.rest.items in
    let all = c.into_iter-slot-iterator.result.rest.items in
    let step : left ≡ slot ∷ others = search rules in
    let pushed : c.push_reserved.new.self.items ≡ done ++ one.result ∷ [] = c.push_reserved.ensures.items in
    let knows = knows_learned c.loop-slot.control one.new.control one.ensures.learned in
    let limits = g.L.LimitsName.limits in
    let start = g.N.Station.faults c.args.station.now in
    let until = g.N.Station.faults c.loop-slot.station in
    let now = g.N.Station.faults one.new.station in
    record {
      knows = knows_trans c.args.control.now c.loop-slot.control one.new.control before.knows knows;
      top = one.ensures.top;
      later = (let first = before.later in let next = one.ensures.later in omega (arith, first, next));
      room = search (rules, arith);
      doors = (
        before.doors.0 ++ g.N.Door.Door.told slot.door ∷ [],
        shuts_next (g.N.Station.told c.args.station.now) (g.N.Station.told c.loop-slot.station) (g.N.Station.told one.new.station) before.doors.0 (g.N.Door.Door.told slot.door) before.doors.1 one.ensures.door,
        moved_on (λ s. g.N.Door.Door.told s.door) all left others slot before.doors.0 before.doors.2 step,
      );
      lines = moved_to (λ s. s.lines.items) (λ s. s.lines.items) all left others slot done c.push_reserved.new.self.items one.result before.lines step pushed (cc (one.ensures.same.0));
      stopped = moved_to (λ s. s.stop) (λ s. s.stop) all left others slot done c.push_reserved.new.self.items one.result before.stopped step pushed one.ensures.same.1;
      slots = λ was begun.
          let (these, so) = before.slots was begun in
          let P = λ (s : Slot g.row.L.Denot g.row.T.Denot g.row.N-Door.Denot g.row.N-Clock.Denot g.row.N-Salt.Denot g.row.N-Sights.Denot g.row.N-Door-Link.Denot g.row.N-Door-Link-In.Denot g.row.N-Door-Link-Out.Denot g.L.LimitsName). SlotOf s.pass.history (g.N.Door.Door.owner s.door) (g.N.Door.Door.told s.door) (g.N.Clock.Clock.gave s.clock) (g.N.Salt.Salt.gave s.salt) s.lines.items in
          let (next, rest) = next_of slot others left P step these in
          let lines = flat_map (λ (s : ShutSlot). s.lines.items) done in (
            rest,
            subst (λ (l : List Line). SlotsOf one.new.control.history (g.N.Station.told one.new.station) l) (lines_next done c.push_reserved.new.self.items one.result pushed) (one.ensures.slots lines next so),
          );
      stops = λ most was.
          let (these, so) = before.stops most was in
          let P = λ (s : Slot g.row.L.Denot g.row.T.Denot g.row.N-Door.Denot g.row.N-Clock.Denot g.row.N-Salt.Denot g.row.N-Sights.Denot g.row.N-Door-Link.Denot g.row.N-Door-Link-In.Denot g.row.N-Door-Link-Out.Denot g.L.LimitsName). IsStopped limits most s.pass (g.N.Door.Door.told s.door) (g.N.Door.Door.faults s.door) s.lines.items s.stop in
          let (next, rest) = next_of slot others left P step these in (
            rest,
            stops_next limits most c.loop-slot.control one.new.control start until now done c.push_reserved.new.self.items one.result pushed knows one.ensures.top before.later one.ensures.later so (one.ensures.stop most next),
          );
      counts = λ was.
          let (these, so) = before.counts was in
          let P = λ (s : Slot g.row.L.Denot g.row.T.Denot g.row.N-Door.Denot g.row.N-Clock.Denot g.row.N-Salt.Denot g.row.N-Sights.Denot g.row.N-Door-Link.Denot g.row.N-Door-Link-In.Denot g.row.N-Door-Link-Out.Denot g.L.LimitsName). CountsAs 0 (g.N.Door.Door.faults s.door) s.stop in
          let (next, rest) = next_of slot others left P step these in
          (rest, counts_next start until now done c.push_reserved.new.self.items one.result pushed so (one.ensures.counts next));
      done = λ most was stopped.
          let (these, so) = before.done most was stopped in
          let P = λ (s : Slot g.row.L.Denot g.row.T.Denot g.row.N-Door.Denot g.row.N-Clock.Denot g.row.N-Salt.Denot g.row.N-Sights.Denot g.row.N-Door-Link.Denot g.row.N-Door-Link-In.Denot g.row.N-Door-Link-Out.Denot g.L.LimitsName). SlotOf s.pass.history (g.N.Door.Door.owner s.door) (g.N.Door.Door.told s.door) (g.N.Clock.Clock.gave s.clock) (g.N.Salt.Salt.gave s.salt) s.lines.items in
          let Q = λ (s : Slot g.row.L.Denot g.row.T.Denot g.row.N-Door.Denot g.row.N-Clock.Denot g.row.N-Salt.Denot g.row.N-Sights.Denot g.row.N-Door-Link.Denot g.row.N-Door-Link-In.Denot g.row.N-Door-Link-Out.Denot g.L.LimitsName). IsStopped g.L.LimitsName.limits most s.pass (g.N.Door.Door.told s.door) (g.N.Door.Door.faults s.door) s.lines.items s.stop in
          let (next, rest) = next_of slot others left P step these in
          let (next_stopped, others_stopped) = next_of slot others left Q step (before.stops most stopped).0 in (
            rest,
            done_next most (g.N.Station.told c.args.station.now) (g.N.Station.told c.loop-slot.station) (g.N.Station.told one.new.station) done c.push_reserved.new.self.items one.result pushed so (one.ensures.done most next next_stopped),
          );
    }

pub returns-clause-slots : goal.returns-clause-slots
returns-clause-slots g c was begun =
    let all : c.into_iter-slot-iterator.result.rest.items ≡ c.args.slots.items = search rules in
    let P = λ (s : Slot g.row.L.Denot g.row.T.Denot g.row.N-Door.Denot g.row.N-Clock.Denot g.row.N-Salt.Denot g.row.N-Sights.Denot g.row.N-Door-Link.Denot g.row.N-Door-Link-In.Denot g.row.N-Door-Link-Out.Denot g.L.LimitsName). SlotOf s.pass.history (g.N.Door.Door.owner s.door) (g.N.Door.Door.told s.door) (g.N.Clock.Clock.gave s.clock) (g.N.Salt.Salt.gave s.salt) s.lines.items in
    let (rest, so) = c.loop-slot.invariant.slots (All-same P _ _ all was) begun in
    so

pub returns-clause-doors : goal.returns-clause-doors
returns-clause-doors g c =
    let all : c.into_iter-slot-iterator.result.rest.items ≡ c.args.slots.items = search rules in
    let none : c.loop-slot.slot-iterator.rest.items ≡ [] = nil_from_length c.loop-slot.slot-iterator.rest.items (search (rules, arith)) in
    let (doors, shuts, these) = c.loop-slot.invariant.doors in
    subst (λ (l : List (Option DoorTold)). ShutsAll (g.N.Station.told c.args.station.now) (g.N.Station.told c.loop-slot.station) l) (moved_all (λ s. g.N.Door.Door.told s.door) _ _ _ doors these none all) shuts

pub returns-clause-stops : goal.returns-clause-stops
returns-clause-stops g c most was =
    let all : c.into_iter-slot-iterator.result.rest.items ≡ c.args.slots.items = search rules in
    let P = λ (s : Slot g.row.L.Denot g.row.T.Denot g.row.N-Door.Denot g.row.N-Clock.Denot g.row.N-Salt.Denot g.row.N-Sights.Denot g.row.N-Door-Link.Denot g.row.N-Door-Link-In.Denot g.row.N-Door-Link-Out.Denot g.L.LimitsName). IsStopped g.L.LimitsName.limits most s.pass (g.N.Door.Door.told s.door) (g.N.Door.Door.faults s.door) s.lines.items s.stop in
    let (rest, so) = c.loop-slot.invariant.stops most (All-same P _ _ all was) in
    so

pub returns-clause-counts : goal.returns-clause-counts
returns-clause-counts g c was =
    let all : c.into_iter-slot-iterator.result.rest.items ≡ c.args.slots.items = search rules in
    let P = λ (s : Slot g.row.L.Denot g.row.T.Denot g.row.N-Door.Denot g.row.N-Clock.Denot g.row.N-Salt.Denot g.row.N-Sights.Denot g.row.N-Door-Link.Denot g.row.N-Door-Link-In.Denot g.row.N-Door-Link-Out.Denot g.L.LimitsName). CountsAs 0 (g.N.Door.Door.faults s.door) s.stop in
    let (rest, so) = c.loop-slot.invariant.counts (All-same P _ _ all was) in
    so

pub returns-clause-done : goal.returns-clause-done
returns-clause-done g c most was stopped =
    let all : c.into_iter-slot-iterator.result.rest.items ≡ c.args.slots.items = search rules in
    let P = λ (s : Slot g.row.L.Denot g.row.T.Denot g.row.N-Door.Denot g.row.N-Clock.Denot g.row.N-Salt.Denot g.row.N-Sights.Denot g.row.N-Door-Link.Denot g.row.N-Door-Link-In.Denot g.row.N-Door-Link-Out.Denot g.L.LimitsName). SlotOf s.pass.history (g.N.Door.Door.owner s.door) (g.N.Door.Door.told s.door) (g.N.Clock.Clock.gave s.clock) (g.N.Salt.Salt.gave s.salt) s.lines.items in
    let Q = λ (s : Slot g.row.L.Denot g.row.T.Denot g.row.N-Door.Denot g.row.N-Clock.Denot g.row.N-Salt.Denot g.row.N-Sights.Denot g.row.N-Door-Link.Denot g.row.N-Door-Link-In.Denot g.row.N-Door-Link-Out.Denot g.L.LimitsName). IsStopped g.L.LimitsName.limits most s.pass (g.N.Door.Door.told s.door) (g.N.Door.Door.faults s.door) s.lines.items s.stop in
    let (rest, so) = c.loop-slot.invariant.done most (All-same P _ _ all was) (All-same Q _ _ all stopped) in
    so
