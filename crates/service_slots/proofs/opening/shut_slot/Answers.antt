use mathlib.Core.List.{IsPrefix}
use Rattle.std.proofs.Common.{sym, subst, List, ◌≤◌, arith}
use Rattle.authority_model.specs.declared.journal.Item.{Item}
use Rattle.service_slots.proofs.Fresh.{learned_prefix}
use Rattle.service_slots.proofs.Growing.{slot_longer}
use Rattle.service_slots.proofs.Backs.{shut_done, shut_step}
use Rattle.service_slots.proofs.Stopping.{counts_shut, stop_told}
use Rattle.service_slots.proofs.opening.shut_slot.Goals as goal

pub returns-clause-slots : goal.returns-clause-slots
returns-clause-slots g c lines was all =
    let s = c.args.slot in
    let m = c.meet in
    let first = learned_prefix c.args.control.now m.new.first m.ensures.first in
    let second = learned_prefix s.pass m.new.second m.ensures.second in
    let known : IsPrefix s.pass.history m.new.first.history = subst (λ (h : List Item). IsPrefix s.pass.history h) (sym m.ensures.equal.0) second in
    let slot = slot_longer s.pass.history m.new.first.history (g.N.Door.Door.owner s.door) (g.N.Door.Door.told s.door) (g.N.Clock.Clock.gave s.clock) (g.N.Salt.Salt.gave s.salt) s.lines.items known was in
    shut_step c.args.control.now.history m.new.first.history (g.N.Station.told c.args.station.now) (g.N.Station.told c.shut.new.self) (g.N.Door.Door.owner s.door) (g.N.Door.Door.told s.door) (g.N.Clock.Clock.gave s.clock) (g.N.Salt.Salt.gave s.salt) lines s.lines.items all first slot c.shut.ensures.shut

pub returns-clause-stop : goal.returns-clause-stop
returns-clause-stop g c most is =
    let s = c.args.slot in
    let m = c.meet in
    let second = learned_prefix s.pass m.new.second m.ensures.second in
    let known : IsPrefix s.pass.history m.new.first.history = subst (λ (h : List Item). IsPrefix s.pass.history h) (sym m.ensures.equal.0) second in
    let grown = m.ensures.second.made in
    let equal = m.ensures.equal.1 in
    let made : s.pass.made ≤ m.new.first.made = omega (arith, grown, equal) in
    stop_told g.L.LimitsName.limits most s.pass m.new.first (g.N.Door.Door.told s.door) (g.N.Door.Door.faults s.door) (g.N.Station.faults c.args.station.now) (g.N.Station.faults c.shut.new.self) s.lines.items s.stop
    is c.shut.ensures.count known m.ensures.first.legal made m.ensures.top

pub returns-clause-done : goal.returns-clause-done
returns-clause-done g c most slot stopped all =
    let s = c.args.slot in
    shut_done s.pass.history g.L.LimitsName.limits most s.pass (g.N.Station.told c.args.station.now) (g.N.Station.told c.shut.new.self) (g.N.Door.Door.owner s.door) (g.N.Door.Door.faults s.door) (g.N.Door.Door.told s.door) (g.N.Clock.Clock.gave s.clock) (g.N.Salt.Salt.gave s.salt) s.lines.items s.stop
    slot stopped all c.shut.ensures.shut

pub returns-clause-counts : goal.returns-clause-counts
returns-clause-counts g c counts =
    counts_shut (g.N.Door.Door.faults c.args.slot.door) (g.N.Station.faults c.args.station.now) (g.N.Station.faults c.shut.new.self) c.args.slot.stop counts c.shut.ensures.count
