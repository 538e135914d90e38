use Rattle.std.proofs.Common.{refl, sym, subst}
use Rattle.authority_core.specs.Journal.{Journal}
use Rattle.authority_model.specs.Given.{Grows, event_given}
use Rattle.authority_model.specs.Items.{items_of}
use Rattle.authority_desk.proofs.Stepping.{stepped_proper}
use Rattle.authority_core.specs.Kept.{IsKept}
use Rattle.authority_core.proofs.Growing.{event_grows, event_kept, full_at}
use Rattle.authority_core.proofs.authority.Authority.step.Goals as goal

-- the journal is full
pub returns-then-is_full-clause-refused : goal.returns-then-is_full-clause-refused
returns-then-is_full-clause-refused c =
    (full_at c.self.inside.limits c.self.inside.history c.self.inside.bytes c.args.self.now c.len.result c.self.view_is c.len.ensures.length c.self.invariant.counted (sym c.if-is_full.ensures.full), refl)

pub invariant_of-self : goal.invariant_of-self
invariant_of-self c =
    let kept = subst (IsKept c.self.inside.history c.self.inside.limits c.self.inside.bytes) (sym c.as_mut.ensures.value) c.self.invariant in
    let past = items_of c.self.inside.history in
    event_kept c.self.inside.history c.self.inside.limits c.self.inside.bytes c.as_mut.result.now c.enter.new.desk kept c.args.caller c.args.moment c.args.salt c.args.event c.enter.new.entries c.in-Ok.cost
    (stepped_proper (event_given c.args.caller c.args.moment c.args.salt c.args.event) c.args.event c.requires.event) c.requires.moment (c.in-Ok.ensures.entered past kept.legal.items kept.desk_is) (c.in-Ok.ensures.stands past kept.legal.items kept.desk_is)

pub returns-in-Ok-clause-grows : goal.returns-in-Ok-clause-grows
returns-in-Ok-clause-grows c =
    let kept = subst (IsKept c.self.inside.history c.self.inside.limits c.self.inside.bytes) (sym c.as_mut.ensures.value) c.self.invariant in
    let past = items_of c.self.inside.history in
    subst (λ (j : Journal). Grows j.history (record { entries = c.enter.new.entries; loads = c.self.inside.history.loads }) (event_given c.args.caller c.args.moment c.args.salt c.args.event)) c.self.view_is
    (event_grows c.self.inside.history c.args.caller c.args.moment c.args.salt c.args.event c.enter.new.entries c.in-Ok.cost
    (stepped_proper (event_given c.args.caller c.args.moment c.args.salt c.args.event) c.args.event c.requires.event) (c.in-Ok.ensures.entered past kept.legal.items kept.desk_is))

pub returns-in-Ok-clause-legal : goal.returns-in-Ok-clause-legal
returns-in-Ok-clause-legal c =
    let kept = subst (IsKept c.self.inside.history c.self.inside.limits c.self.inside.bytes) (sym c.as_mut.ensures.value) c.self.invariant in
    let past = items_of c.self.inside.history in
    let after = event_kept c.self.inside.history c.self.inside.limits c.self.inside.bytes c.as_mut.result.now c.enter.new.desk kept c.args.caller c.args.moment c.args.salt c.args.event c.enter.new.entries c.in-Ok.cost
    (stepped_proper (event_given c.args.caller c.args.moment c.args.salt c.args.event) c.args.event c.requires.event) c.requires.moment (c.in-Ok.ensures.entered past kept.legal.items kept.desk_is) (c.in-Ok.ensures.stands past kept.legal.items kept.desk_is) in
    after.legal
