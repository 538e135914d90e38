use Rattle.std.proofs.Common.{◌≡◌, ◌≤◌, false, ◌∙◌, ap, sym, refl, subst}
use Rattle.authority_model.specs.declared.journal.TheConstants.{MAX_ENTRIES}
use Rattle.authority_model.specs.declared.journal.Item.{Item}
use Rattle.authority_model.specs.declared.journal.Limits.{Limits}
use Rattle.authority_model.specs.Entering.{is_full}
use Rattle.authority_model.specs.Items.{items_of, loaded_of}
use Rattle.authority_model.specs.Given.{next, event_given, load_given}
use Rattle.authority_laws.specs.Batches.{in_order, collect_given}
use Rattle.authority_core.specs.Journal.{Journal}
use Rattle.authority_core.specs.Unlisting.{unlisted}
use Rattle.authority_core.specs.Refusals.{IsHalted, halt_of_unlist}
use Rattle.shared_authority.specs.declared.operation.Op.{Op}
use Rattle.shared_authority.specs.declared.operation.Op.TheVariants.{Step, Load}
use Rattle.shared_authority.specs.declared.operation.Refusal.{Refusal}
use Rattle.shared_authority.specs.declared.operation.Refusal.TheVariants.{Halted}
use Rattle.shared_authority.specs.declared.operation.Reply.TheVariants.{At, Batch as Batched}
use Rattle.shared_authority.specs.Machines.{Gives, Refuses, RefusesUnlist}
use Rattle.shared_authority.proofs.Growing.{order_grows, order_length, order_journal, stays_within}
use Rattle.shared_authority.proofs.Refusing.{halts, unlist_refuses}
use Rattle.shared_authority.proofs.kept.KeptMachine.apply.Goals as goal

pub invariant_of-self-clause-within : goal.invariant_of-self-clause-within
invariant_of-self-clause-within g c =
    let kept = c.args.self.now in
    let e = c.step.ensures in
    stays_within c.step.result kept.authority c.step.new.self (event_given c.args.caller c.in-Step.moment c.in-Step.salt c.in-Step.event) e.grows e.err e.within g.L.LimitsName.limits kept.named kept.within

pub invariant_of-self-in-Load-clause-within : goal.invariant_of-self-in-Load-clause-within
invariant_of-self-in-Load-clause-within g c =
    let kept = c.args.self.now in
    let e = c.load.ensures in
    stays_within c.load.result kept.authority c.load.new.self (load_given c.args.caller c.in-Load.moment c.in-Load.loaded) e.grows e.err e.within g.L.LimitsName.limits kept.named kept.within

pub returns-in-Ok-clause-ok : goal.returns-in-Ok-clause-ok
returns-in-Ok-clause-ok g c =
    let h = c.args.self.now.authority.history in
    let e = c.in-Ok.ensures in
    let given = event_given c.args.caller c.in-Step.moment c.in-Step.salt c.in-Step.event in
    let i : Item = next (items_of h) given in
    let few = subst (λ (l : Limits). l.entries ≤ MAX_ENTRIES) (sym c.args.self.now.named) c.args.self.now.few in (
      i,
      order_grows h c.step.new.self.history given e.grows,
      refl,
      record { gives = subst (λ (op : Op). Gives c.args.caller op (in_order h) i (At c.in-Ok.place)) (sym c.in-Step.is) (refl, e.place ∙ sym (order_length h)); room = subst (λ (l : Limits). is_full l (items_of h) ≡ false) c.args.self.now.named e.within },
      order_journal h c.step.new.self.history given c.args.self.now.authority.limits e.grows e.legal e.within few,
    )

pub returns-in-Ok-load-clause-ok : goal.returns-in-Ok-load-clause-ok
returns-in-Ok-load-clause-ok g c =
    let h = c.args.self.now.authority.history in
    let e = c.in-Ok-load.ensures in
    let given = load_given c.args.caller c.in-Load.moment c.in-Load.loaded in
    let i : Item = next (items_of h) given in
    let few = subst (λ (l : Limits). l.entries ≤ MAX_ENTRIES) (sym c.args.self.now.named) c.args.self.now.few in (
      i,
      order_grows h c.load.new.self.history given e.grows,
      refl,
      record { gives = subst (λ (op : Op). Gives c.args.caller op (in_order h) i (At c.in-Ok-load.place)) (sym c.in-Load.is) (refl, e.place ∙ sym (order_length h)); room = subst (λ (l : Limits). is_full l (items_of h) ≡ false) c.args.self.now.named e.within },
      order_journal h c.load.new.self.history given c.args.self.now.authority.limits e.grows e.legal e.within few,
    )

pub returns-in-Err-clause-err : goal.returns-in-Err-clause-err
returns-in-Err-clause-err g c =
    let kept = c.args.self.now in
    let e = c.in-Err.ensures in
    let limits = g.L.LimitsName.limits in (
      ap (λ (j : Journal). in_order j.history) e.err,
      ap (Step c.in-Step.moment c.in-Step.salt) (c.into_parts-halt.ensures.event ∙ e.refused.1) ∙ sym c.in-Step.is,
      subst (λ (op : Op). Refuses limits op (in_order kept.authority.history) (Halted c.into_parts-halt.result.0)) (sym c.in-Step.is) (halts kept.authority limits c.into_parts-halt.result.0 (subst (IsHalted kept.authority) (sym c.into_parts-halt.ensures.halt) e.refused.0) kept.named kept.within),
    )

pub returns-in-Err-load-clause-err : goal.returns-in-Err-load-clause-err
returns-in-Err-load-clause-err g c =
    let kept = c.args.self.now in
    let e = c.in-Err-load.ensures in
    let limits = g.L.LimitsName.limits in (
      ap (λ (j : Journal). in_order j.history) e.err,
      ap (Load c.in-Load.moment) (c.into_parts-halt-in-Err-load.ensures.loaded ∙ e.refused.1) ∙ sym c.in-Load.is,
      subst (λ (op : Op). Refuses limits op (in_order kept.authority.history) (Halted c.into_parts-halt-in-Err-load.result.0)) (sym c.in-Load.is) (halts kept.authority limits c.into_parts-halt-in-Err-load.result.0 (subst (IsHalted kept.authority) (sym c.into_parts-halt-in-Err-load.ensures.halt) e.refused.0) kept.named kept.within),
    )

pub invariant_of-self-in-Collect-clause-within : goal.invariant_of-self-in-Collect-clause-within
invariant_of-self-in-Collect-clause-within g c =
    let kept = c.args.self.now in
    let e = c.collect.ensures in
    stays_within c.collect.result kept.authority c.collect.new.self (collect_given c.args.caller c.in-Collect.of) e.grows e.err e.within g.L.LimitsName.limits kept.named kept.within

pub returns-in-Ok-collect-clause-ok : goal.returns-in-Ok-collect-clause-ok
returns-in-Ok-collect-clause-ok g c =
    let h = c.args.self.now.authority.history in
    let e = c.in-Ok-collect.ensures in
    let given = collect_given c.args.caller c.in-Collect.of in
    let i : Item = next (items_of h) given in
    let few = subst (λ (l : Limits). l.entries ≤ MAX_ENTRIES) (sym c.args.self.now.named) c.args.self.now.few in (
      i,
      order_grows h c.collect.new.self.history given e.grows,
      refl,
      record { gives = subst (λ (op : Op). Gives c.args.caller op (in_order h) i (Batched c.in-Ok-collect.batch)) (sym c.in-Collect.is) (refl, e.batch); room = subst (λ (l : Limits). is_full l (items_of h) ≡ false) c.args.self.now.named e.within },
      order_journal h c.collect.new.self.history given c.args.self.now.authority.limits e.grows e.legal e.within few,
    )

pub returns-in-Err-collect-clause-err : goal.returns-in-Err-collect-clause-err
returns-in-Err-collect-clause-err g c =
    let kept = c.args.self.now in
    let e = c.in-Err-collect.ensures in
    let limits = g.L.LimitsName.limits in (
      ap (λ (j : Journal). in_order j.history) e.err,
      sym c.in-Collect.is,
      subst (λ (op : Op). Refuses limits op (in_order kept.authority.history) (Halted c.halt.result)) (sym c.in-Collect.is) (halts kept.authority limits c.halt.result (subst (IsHalted kept.authority) (sym c.halt.ensures.halt) e.refused) kept.named kept.within),
    )

pub invariant_of-self-in-Unlist-clause-within : goal.invariant_of-self-in-Unlist-clause-within
invariant_of-self-in-Unlist-clause-within g c =
    let kept = c.args.self.now in
    let e = c.unlist.ensures in
    let given = load_given c.args.caller c.in-Unlist.moment (unlisted (loaded_of (items_of kept.authority.history)) c.in-Unlist.pid c.in-Unlist.start) in
    stays_within c.unlist.result kept.authority c.unlist.new.self given e.grows e.err e.within g.L.LimitsName.limits kept.named kept.within

pub returns-in-Ok-unlist-clause-ok : goal.returns-in-Ok-unlist-clause-ok
returns-in-Ok-unlist-clause-ok g c =
    let h = c.args.self.now.authority.history in
    let e = c.in-Ok-unlist.ensures in
    let given = load_given c.args.caller c.in-Unlist.moment (unlisted (loaded_of (items_of h)) c.in-Unlist.pid c.in-Unlist.start) in
    let i : Item = next (items_of h) given in
    let few = subst (λ (l : Limits). l.entries ≤ MAX_ENTRIES) (sym c.args.self.now.named) c.args.self.now.few in (
      i,
      order_grows h c.unlist.new.self.history given e.grows,
      refl,
      record {
        gives = subst (λ (op : Op). Gives c.args.caller op (in_order h) i (At c.in-Ok-unlist.place)) (sym c.in-Unlist.is) (refl, e.place ∙ sym (order_length h), e.listed);
        room = subst (λ (l : Limits). is_full l (items_of h) ≡ false) c.args.self.now.named e.within;
      },
      order_journal h c.unlist.new.self.history given c.args.self.now.authority.limits e.grows e.legal e.within few,
    )

pub returns-in-Err-unlist-clause-err : goal.returns-in-Err-unlist-clause-err
returns-in-Err-unlist-clause-err g c =
    let kept = c.args.self.now in
    let e = c.in-Err-unlist.ensures in
    let limits = g.L.LimitsName.limits in (
      ap (λ (j : Journal). in_order j.history) e.err,
      sym c.in-Unlist.is,
      subst (λ (op : Op). Refuses limits op (in_order kept.authority.history) c.unlist_refusal.result) (sym c.in-Unlist.is)
          (subst (λ (r : Refusal). RefusesUnlist limits c.in-Unlist.pid c.in-Unlist.start (in_order kept.authority.history) r) (sym c.unlist_refusal.ensures)
          (unlist_refuses kept.authority limits c.in-Unlist.pid c.in-Unlist.start (halt_of_unlist c.in-Err-unlist.refused) e.refused kept.named kept.within)),
    )
