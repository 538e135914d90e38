use Rattle.std.proofs.Common.{◌++◌, ◌∷◌, [], List, sym, ap, ◌∙◌, subst}
use mathlib.Core.List.{IsPrefix}
use Rattle.history_lock.proofs.Prefixes.{prefix_trans}
use Rattle.history_lock.specs.Calls.{Learned}
use Rattle.history_lock.specs.Known.{Known}
use Rattle.pk_outside.specs.Doors.{TakesBack}
use Rattle.pk_outside.specs.Links.{EndsTell}
use Rattle.authority_model.specs.declared.journal.Item.{Item}
use Rattle.shared_authority.specs.Journals.{IsJournal, caller_of}
use Rattle.service_slots.specs.declared.line.Line.{Line}
use Rattle.service_slots.proofs.Fresh.{learned_prefix}
use Rattle.service_slots.proofs.Growing.{slot_longer, slot_same, slot_step, slot_named}
use Rattle.service_slots.proofs.Stopping.{after_next, counts_after}
use Rattle.service_slots.proofs.Told.{made_again}
use Rattle.service_slots.proofs.slot.serve_next.Goals as goal

pub returns-in-Err-clause-slot : goal.returns-in-Err-clause-slot
returns-in-Err-clause-slot g c was =
    let s = c.args.slot.now in
    let n = c.next_link.new in
    let longer = slot_longer s.pass.history n.pass.history (g.D.Door.owner s.door) (g.D.Door.told s.door) (g.C.Clock.gave s.clock) (g.S.Salt.gave s.salt) s.lines.items c.in-Err.ensures.grows was in
    slot_same n.pass.history (g.D.Door.owner s.door) (g.D.Door.owner n.door) (g.D.Door.told s.door) (g.D.Door.told n.door) (g.C.Clock.gave s.clock) (g.S.Salt.gave s.salt) s.lines.items longer c.in-Err.ensures.left c.in-Err.ensures.owner

pub returns-in-Err-clause-stops : goal.returns-in-Err-clause-stops
returns-in-Err-clause-stops g c most = c.in-Err.ensures.stops most c.args.slot.now.lines.items c.requires.none_ended

pub returns-clause-slot : goal.returns-clause-slot
returns-clause-slot g c was =
    let s = c.args.slot.now in
    let n = c.next_link.new in
    let e = c.serve_link-end in
    let m = c.meet in
    let line : Line = record { number = c.number-number.result; uid = c.uid-uid.result; sighter = e.result.1; end = e.result.0 } in
    let told = subst (λ (v : Known Item). Learned caller_of IsJournal v m.new.first) e.ensures.kept.0 m.ensures.first in
    let taken = subst (λ (d : g.row.D.Denot). TakesBack (g.D.Door.told d) (g.D.Door.told c.back.new.self) (EndsTell (g.D.Link.In.Source.origin e.new.ends.input) (g.D.Link.In.Source.left e.new.ends.input) (g.D.Link.Out.Sink.held e.new.ends.output) (g.D.Link.In.Source.faults e.new.ends.input) (g.D.Link.Out.Sink.faults e.new.ends.output))) e.ensures.kept.1 c.back.ensures.taken in
    let longer : IsPrefix s.pass.history m.new.first.history = prefix_trans s.pass.history n.pass.history m.new.first.history c.in-Ok.ensures.grows (learned_prefix n.pass m.new.first told) in
    let known : IsPrefix e.new.passes.pass.history m.new.first.history = subst (λ (h : List Item). IsPrefix e.new.passes.pass.history h) (sym m.ensures.equal.0) (learned_prefix e.new.passes.pass m.new.second m.ensures.second) in
    let all = slot_step s.pass.history m.new.first.history g.L.LimitsName.limits (g.D.Door.owner s.door) (g.D.Door.owner n.door) (g.D.Door.told s.door) (g.D.Door.told n.door) (g.D.Door.told c.back.new.self)
    (g.D.Link.Link.origin c.in-Ok.link) (g.D.Link.In.Source.origin e.new.ends.input) c.args.passes.pass e.new.passes.pass
    (g.D.Link.In.Source.left c.split-ends.result.input) (g.D.Link.In.Source.left e.new.ends.input) (g.D.Link.Out.Sink.held c.split-ends.result.output) (g.D.Link.Out.Sink.held e.new.ends.output)
    (g.C.Clock.gave s.clock) (g.C.Clock.gave e.new.slot.clock) (g.S.Salt.gave s.salt) (g.S.Salt.gave e.new.slot.salt)
    (g.D.Link.In.Source.faults c.split-ends.result.input) (g.D.Link.In.Source.faults e.new.ends.input) (g.D.Link.Out.Sink.faults c.split-ends.result.output) (g.D.Link.Out.Sink.faults e.new.ends.output) s.lines.items line
    was longer known c.in-Ok.ensures.links e.ensures.served c.split-ends.ensures.unwritten taken e.ensures.watched e.ensures.wrote
    (c.number-number.ensures.number ∙ m.ensures.second.number) c.uid-uid.ensures c.in-Ok.ensures.owner
    c.split-ends.ensures.unread (e.ensures.origin ∙ c.split-ends.ensures.origin) in
    let owner = c.back.ensures.owner ∙ ap g.D.Door.owner e.ensures.kept.1 ∙ c.in-Ok.ensures.owner in
    slot_named m.new.first.history (g.D.Door.owner s.door) (g.D.Door.owner c.back.new.self) (g.D.Door.told c.back.new.self) (g.C.Clock.gave e.new.slot.clock) (g.S.Salt.gave e.new.slot.salt)
    (s.lines.items ++ line ∷ []) c.push_reserved.new.self.items all owner (rw (← e.ensures.kept.2) c.push_reserved.ensures.items)

pub returns-clause-door : goal.returns-clause-door
returns-clause-door g c =
    let s = c.args.slot.now in
    let e = c.serve_link-end in
    let taken = subst (λ (d : g.row.D.Denot). TakesBack (g.D.Door.told d) (g.D.Door.told c.back.new.self) (EndsTell (g.D.Link.In.Source.origin e.new.ends.input) (g.D.Link.In.Source.left e.new.ends.input) (g.D.Link.Out.Sink.held e.new.ends.output) (g.D.Link.In.Source.faults e.new.ends.input) (g.D.Link.Out.Sink.faults e.new.ends.output))) e.ensures.kept.1 c.back.ensures.taken in
    made_again (g.D.Door.told s.door) (g.D.Door.told c.next_link.new.door) (g.D.Door.told c.back.new.self) (g.D.Link.Link.origin c.in-Ok.link) (g.D.Link.In.Source.origin e.new.ends.input)
    (g.D.Link.In.Source.left e.new.ends.input) (g.D.Link.Out.Sink.held e.new.ends.output) (g.D.Link.In.Source.faults e.new.ends.input) (g.D.Link.Out.Sink.faults e.new.ends.output)
    c.in-Ok.ensures.links taken (e.ensures.origin ∙ c.split-ends.ensures.origin)

pub returns-clause-goes_on : goal.returns-clause-goes_on
returns-clause-goes_on g c =
    let s = c.args.slot.now in
    let e = c.serve_link-end in
    let m = c.meet in
    let now = after_next g.L.LimitsName.limits (g.D.Door.owner c.next_link.new.door) c.args.passes.pass e.new.passes.pass m.new.first m.new.second
    (g.D.Link.In.Source.left c.split-ends.result.input) (g.D.Link.In.Source.left e.new.ends.input) (g.D.Link.Out.Sink.held c.split-ends.result.output) (g.D.Link.Out.Sink.held e.new.ends.output)
    (g.C.Clock.gave s.clock) (g.C.Clock.gave e.new.slot.clock) (g.S.Salt.gave s.salt) (g.S.Salt.gave e.new.slot.salt)
    (g.D.Link.In.Source.faults c.split-ends.result.input) (g.D.Link.In.Source.faults e.new.ends.input) (g.D.Link.Out.Sink.faults c.split-ends.result.output) (g.D.Link.Out.Sink.faults e.new.ends.output)
    (g.D.Door.told c.back.new.self) (g.D.Door.faults c.back.new.self) s.lines.items c.push_reserved.new.self.items c.number-number.result c.uid-uid.result e.result.1 e.result.0 c.of_end.result
    e.ensures.served m.ensures.first m.ensures.second m.ensures.equal.0 m.ensures.equal.1 m.ensures.top c.requires.none_ended (rw (← e.ensures.kept.2) c.push_reserved.ensures.items) c.of_end.ensures in
    now.goes_on

pub returns-clause-stops : goal.returns-clause-stops
returns-clause-stops g c =
    let s = c.args.slot.now in
    let e = c.serve_link-end in
    let m = c.meet in
    let now = after_next g.L.LimitsName.limits (g.D.Door.owner c.next_link.new.door) c.args.passes.pass e.new.passes.pass m.new.first m.new.second
    (g.D.Link.In.Source.left c.split-ends.result.input) (g.D.Link.In.Source.left e.new.ends.input) (g.D.Link.Out.Sink.held c.split-ends.result.output) (g.D.Link.Out.Sink.held e.new.ends.output)
    (g.C.Clock.gave s.clock) (g.C.Clock.gave e.new.slot.clock) (g.S.Salt.gave s.salt) (g.S.Salt.gave e.new.slot.salt)
    (g.D.Link.In.Source.faults c.split-ends.result.input) (g.D.Link.In.Source.faults e.new.ends.input) (g.D.Link.Out.Sink.faults c.split-ends.result.output) (g.D.Link.Out.Sink.faults e.new.ends.output)
    (g.D.Door.told c.back.new.self) (g.D.Door.faults c.back.new.self) s.lines.items c.push_reserved.new.self.items c.number-number.result c.uid-uid.result e.result.1 e.result.0 c.of_end.result
    e.ensures.served m.ensures.first m.ensures.second m.ensures.equal.0 m.ensures.equal.1 m.ensures.top c.requires.none_ended (rw (← e.ensures.kept.2) c.push_reserved.ensures.items) c.of_end.ensures in
    now.stops

pub serve_link-end-requires-clause-may : goal.serve_link-end-requires-clause-may
serve_link-end-requires-clause-may g c κs within =
    c.requires.may (g.D.Link.Out.Sink.held c.split-ends.result.output) (g.D.Door.owner c.next_link.new.door) c.args.passes.collector.number c.args.passes.pass.number c.split-ends.ensures.unwritten

pub returns-clause-counts : goal.returns-clause-counts
returns-clause-counts g c =
    let same = c.back.ensures.count ∙ ap g.D.Door.faults c.serve_link-end.ensures.kept.1 ∙ c.in-Ok.ensures.counts in
    rw c.of_end.ensures (counts_after (g.D.Door.faults c.args.slot.now.door) (g.D.Door.faults c.back.new.self) c.serve_link-end.result.0 same)
