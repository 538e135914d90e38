use Rattle.std.proofs.Common.{refl, sym, subst, arith}
use Rattle.authority_core.specs.Journal.{Journal}
use Rattle.authority_model.specs.Given.{Grows, load_given}
use Rattle.authority_model.specs.Items.{items_of}
use Rattle.authority_core.specs.Kept.{IsKept}
use Rattle.authority_core.proofs.Growing.{bytes_below, full_at, load_grows, load_kept}
use Rattle.authority_core.proofs.authority.Authority.load.Goals as goal

-- the journal is full
pub returns-then-is_full-clause-refused : goal.returns-then-is_full-clause-refused
returns-then-is_full-clause-refused c =
    (full_at c.self.inside.limits c.self.inside.history c.self.inside.bytes c.args.self.now c.len.result c.self.view_is c.len.ensures.length c.self.invariant.counted (sym c.if-is_full.ensures.full), refl)

-- the counted bytes stay below 2^64
pub overflow_add-self-in-Ok : goal.overflow_add-self-in-Ok
overflow_add-self-in-Ok c =
    let kept = subst (IsKept c.self.inside.history c.self.inside.limits c.self.inside.bytes) (sym c.as_mut.ensures.value) c.self.invariant in
    let below = bytes_below c.self.inside.limits c.self.inside.history c.self.inside.bytes c.args.self.now c.self.view_is kept.counted (sym c.if-is_full.ensures.full) in
    let entered = c.in-Ok.ensures.entered (items_of c.self.inside.history) kept.legal.items kept.desk_is in
    let limit = kept.allowed.1 in
    let cost = entered.capped in
    omega (arith, below, limit, cost, c.cost_of_load-cost_of_loaded.ensures.capped)

pub invariant_of-self : goal.invariant_of-self
invariant_of-self c =
    let kept = subst (IsKept c.self.inside.history c.self.inside.limits c.self.inside.bytes) (sym c.as_mut.ensures.value) c.self.invariant in
    let past = items_of c.self.inside.history in
    load_kept c.self.inside.history c.enter_load.new.history c.self.inside.limits c.self.inside.bytes c.as_mut.result.now c.enter_load.new.desk kept c.args.caller c.args.moment c.args.loaded c.in-Ok.cost c.cost_of_load-cost_of_loaded.result c.requires.moment
    (c.in-Ok.ensures.entered past kept.legal.items kept.desk_is) c.in-Ok.ensures.loads c.cost_of_load-cost_of_loaded.ensures.cost (c.in-Ok.ensures.stands past kept.legal.items kept.desk_is)

pub returns-in-Ok-clause-grows : goal.returns-in-Ok-clause-grows
returns-in-Ok-clause-grows c =
    let kept = subst (IsKept c.self.inside.history c.self.inside.limits c.self.inside.bytes) (sym c.as_mut.ensures.value) c.self.invariant in
    subst (λ (j : Journal). Grows j.history c.enter_load.new.history (load_given c.args.caller c.args.moment c.args.loaded)) c.self.view_is
    (load_grows c.self.inside.history c.enter_load.new.history c.args.caller c.args.moment c.args.loaded c.in-Ok.cost kept.each_loaded (c.in-Ok.ensures.entered (items_of c.self.inside.history) kept.legal.items kept.desk_is) c.in-Ok.ensures.loads)

pub returns-in-Ok-clause-legal : goal.returns-in-Ok-clause-legal
returns-in-Ok-clause-legal c =
    let kept = subst (IsKept c.self.inside.history c.self.inside.limits c.self.inside.bytes) (sym c.as_mut.ensures.value) c.self.invariant in
    let past = items_of c.self.inside.history in
    let after = load_kept c.self.inside.history c.enter_load.new.history c.self.inside.limits c.self.inside.bytes c.as_mut.result.now c.enter_load.new.desk kept c.args.caller c.args.moment c.args.loaded c.in-Ok.cost c.cost_of_load-cost_of_loaded.result c.requires.moment
    (c.in-Ok.ensures.entered past kept.legal.items kept.desk_is) c.in-Ok.ensures.loads c.cost_of_load-cost_of_loaded.ensures.cost (c.in-Ok.ensures.stands past kept.legal.items kept.desk_is) in
    after.legal
