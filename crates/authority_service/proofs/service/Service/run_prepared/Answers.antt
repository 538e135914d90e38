use Rattle.std.proofs.Common.{◌≡◌, ◌≤◌, [], Option, refl, ap, ◌∙◌, arith, length, vec_len}
use Rattle.std.specs.Prelude.{slice_index_or}
use Rattle.std.specs.List.{flat_map}
use Rattle.std.specs.Option.{option_or}
use Rattle.std.specs.Vec.{vec_capacity}
use Rattle.authority_laws.specs.Batches.{in_order}
use Rattle.history_lock.proofs.Prefixes.{prefix_trans}
use Rattle.history_lock.specs.declared.machine.EndCause.{EndCause}
use Rattle.service_slots.specs.declared.opening.ShutSlot.{ShutSlot}
use Rattle.authority_service.specs.Service.{slots_of}
use Rattle.authority_service.proofs.Closing.{cause_fits, doors_back, loads_alone, made_again, none_found, opened_done, opened_none, same_length, slots_closed}
use Rattle.authority_service.proofs.FirstLoad.{begins_longer, some_begun}
use Rattle.authority_service.proofs.RunsEnd.{slots_run}
use Rattle.authority_service.proofs.service.Service.run_prepared.Goals as goal

pub serve_beside_loader-zero-requires-clause-zero : goal.serve_beside_loader-zero-requires-clause-zero
serve_beside_loader-zero-requires-clause-zero g c κs within = c.requires.begun.number

pub serve_beside_loader-zero-requires-clause-fresh : goal.serve_beside_loader-zero-requires-clause-fresh
serve_beside_loader-zero-requires-clause-fresh g c κs within = c.requires.begun.unconnected

pub serve_beside_loader-zero-requires-clause-none_ended : goal.serve_beside_loader-zero-requires-clause-none_ended
serve_beside_loader-zero-requires-clause-none_ended g c κs within = λ k d lt j e below.
    let none = (c.in_ok-slots.ensures.new k d lt).0 in
    absurd (omega (arith, ap length none, below))

pub shut_slots-requires-clause-none : goal.shut_slots-requires-clause-none
shut_slots-requires-clause-none g c κs within = c.in_ok-slots.ensures.room.0

pub shut_slots-requires-clause-room : goal.shut_slots-requires-clause-room
shut_slots-requires-clause-room g c κs within =
    let s = c.serve_beside_loader-zero in
    let same = same_length _ _ _ _ s.ensures.doors in
    let of = s.result.slots.ok in
    let was = c.in_ok-slots.slots.ok in
    let all = c.in_ok-slots.ensures.all in
    let room = c.in_ok-slots.ensures.room.1 in
    let fits : vec_len s.result.slots ≤ vec_capacity c.open_slots.new.parts.shut = omega (arith, same, of, was, all, room) in
    fits

pub returns : goal.returns
returns g c = record {
  runs = (λ first begins.
      let plan = c.args.self.now.plan.now in
      let tree = c.args.tree.now in
      let limits = g.L.LimitsName.limits in
      let o = c.in_ok-slots.ensures in
      let slots = c.in_ok-slots.slots in
      let control = c.open_slots.new.parts.control in
      let s = c.serve_beside_loader-zero in
      let shut = c.shut_slots in
      let k = c.close_journal-authority.ensures.closed in
      let journal = in_order c.close_journal-authority.result.history in
      let t0 = g.N.Station.told c.args.station.now in
      let t1 = g.N.Station.told c.open_slots.new.station in
      let t2 = g.N.Station.told shut.new.station in
      let alone = loads_alone c.args.zero s.result.zero journal c.requires.begun k.rest in
      let found = c.or-cause.ensures ∙ ap (λ (o : Option EndCause). option_or c.or.result o) c.ended_loader.ensures in
      let found_first = c.or.ensures ∙ ap (λ (o : Option EndCause). option_or c.ended_slots.result o) c.err.ensures.value in
      let later = prefix_trans s.result.control.history shut.new.control.history journal shut.ensures.knows.begins k.control_begins in
      let grown = shut.ensures.knows.made in
      let top = shut.ensures.top in
      let same = same_length _ _ _ _ s.ensures.doors in
      let last = same_length _ _ _ _ shut.ensures.stopped in
      let was = slots.ok in
      let all = o.all in
      let many : length shut.new.shut.items ≡ slots_of plan = omega (arith, same, last, was, all) in
      slots_run plan limits first _ c.close_journal-authority.result.history shut.new.shut.items c.or-cause.result (slots_of plan) (g.N.Station.faults c.open_slots.new.station)
      c.requires.limits c.close_journal-authority.ensures.legal c.close_journal-authority.ensures.within
      (begins_longer first c.args.zero.history journal begins (some_begun c.args.zero c.requires.begun) (prefix_trans c.args.zero.history s.result.zero.history journal s.ensures.zero.1 k.zero_begins))
      (λ none. record {
        where_told = (λ t e.
            let (mid, mid_is, backs, told, left) = shut.ensures.doors.where_told t e in
            let before = slots_closed control.history s.result.control.history t1 [] s.ensures.control (opened_none plan.doors plan.slots (slots_of plan) plan.live t0 t1 _ control.history o.doors none) in
            (slots_closed shut.new.control.history journal t2 (flat_map (λ (t : ShutSlot). t.lines.items) shut.new.shut.items) k.control_begins (shut.ensures.slots (s.ensures.slots (λ i d lt. o.slots mid (slice_index_or slots.items i d).pass.history mid_is i d lt)) before)).where_told t e);
      })
      (doors_back plan (slots_of plan) t0 t1 t2 _ _ o.doors shut.ensures.doors (made_again _ _ _ _ s.ensures.doors)) refl many
      (cause_fits limits plan.stop_after shut.new.control s.result.control s.result.zero control (g.N.Station.faults c.open_slots.new.station) (g.N.Station.faults shut.new.station) shut.new.shut.items
      (g.F.Tree.told tree) plan.root (g.F.Tree.faults tree) s.result.tree_faults c.args.zero c.ended_slots.result c.or.result c.or-cause.result s.result.stopped s.result.loader journal found found_first
      (shut.ensures.stops plan.stop_after s.ensures.stopped) (rw (← c.as_slice.ensures.value) c.ended_slots.ensures.found) s.ensures.stops s.ensures.loader c.close_journal-authority.ensures.legal
      k.control_begins top later (omega (arith, top, grown)) k.zero_begins k.top)
      (s.result.loader, record { from = g.F.Tree.faults tree; until = s.result.tree_faults; before = c.args.zero; after = s.result.zero; begins = k.zero_begins; loads = s.ensures.loader; alone = alone })
      (none_found limits s.result.zero shut.new.shut.items (g.F.Tree.told tree) plan.root (g.F.Tree.faults tree) s.result.tree_faults c.args.zero c.ended_slots.result c.or.result c.or-cause.result s.result.stopped s.result.loader journal found found_first
      (rw (← c.as_slice.ensures.value) c.ended_slots.ensures.none) s.ensures.loader k.zero_begins alone)
      (shut.new.control, shut.ensures.stops plan.stop_after s.ensures.stopped) (let quiet = o.quiet in omega (arith, quiet))
      (λ served. record {
        where_told = (λ t e.
            let (mid, mid_is, backs, told, left) = shut.ensures.doors.where_told t e in
            (opened_done plan.doors plan.slots (slots_of plan) plan.live t0 t1 t2 _ plan.stop_after o.doors (shut.ensures.done plan.stop_after (s.ensures.slots (λ i d lt. o.slots mid (slice_index_or slots.items i d).pass.history mid_is i d lt)) s.ensures.stopped served)).where_told t e);
      })
      (λ served. shut.ensures.counts (s.ensures.counts (λ i d lt. (o.new i d lt).2)) served ∙ o.quiet));
}
