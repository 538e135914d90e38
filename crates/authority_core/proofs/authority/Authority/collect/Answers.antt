-- What is taken of a journal that is not full is a batch.
use Rattle.std.proofs.Common.{◌≡◌, false, refl, subst, sym, arith}
use Rattle.authority_core.specs.Journal.{Journal}
use Rattle.authority_model.specs.declared.event.Event.TheVariants.{Collect}
use Rattle.authority_model.specs.Entering.{is_full}
use Rattle.authority_model.specs.Given.{Grows}
use Rattle.authority_model.specs.Items.{items_of}
use Rattle.authority_laws.specs.Batches.{IsBatch, collect_given}
use Rattle.authority_laws.proofs.Batching.{collected_few, sent_few}
use Rattle.authority_core.proofs.Batching.{batch_is}
use Rattle.authority_core.specs.Kept.{IsKept}
use Rattle.authority_core.proofs.Growing.{event_grows, event_kept, full_at}
use Rattle.authority_core.proofs.authority.Authority.collect.Goals as goal

pub returns-then-is_full-clause-refused : goal.returns-then-is_full-clause-refused
returns-then-is_full-clause-refused c =
    full_at c.self.inside.limits c.self.inside.history c.self.inside.bytes c.args.self.now c.len.result c.self.view_is c.len.ensures.length c.self.invariant.counted (sym c.if-is_full.ensures.full)

pub batch_of-requires-clause-few : goal.batch_of-requires-clause-few
batch_of-requires-clause-few c =
    let past = items_of c.self.inside.history in
    let room : is_full c.self.inside.limits past ≡ false = subst (λ (j : Journal). is_full j.limits (items_of j.history) ≡ false) (sym c.self.view_is) (sym c.if-is_full.ensures.full) in
    let sent = sent_few c.self.inside.limits past c.args.of c.self.invariant.allowed room in
    let held = collected_few past c.args.caller c.args.of in
    omega (arith, sent, held)

pub invariant_of-self : goal.invariant_of-self
invariant_of-self c =
    let kept = subst (IsKept c.self.inside.history c.self.inside.limits c.self.inside.bytes) (sym c.as_mut.ensures.value) c.self.invariant in
    let past = items_of c.self.inside.history in
    event_kept c.self.inside.history c.self.inside.limits c.self.inside.bytes c.as_mut.result.now c.enter_collect.new.desk kept c.args.caller 0 0 (Collect c.args.of) c.enter_collect.new.entries c.in-Ok-enter_collect.cost
    (refl, refl) (omega arith) (c.in-Ok-enter_collect.ensures.entered past kept.legal.items kept.desk_is) (c.in-Ok-enter_collect.ensures.stands past kept.legal.items kept.desk_is)

pub returns-in-Ok-enter_collect-clause-batch : goal.returns-in-Ok-enter_collect-clause-batch
returns-in-Ok-enter_collect-clause-batch c =
    let past = items_of c.self.inside.history in
    let room : is_full c.self.inside.limits past ≡ false = subst (λ (j : Journal). is_full j.limits (items_of j.history) ≡ false) (sym c.self.view_is) (sym c.if-is_full.ensures.full) in
    subst (λ (j : Journal). IsBatch (items_of j.history) c.args.caller c.args.of c.in-Ok.batch.from c.in-Ok.batch.outputs c.in-Ok.batch.loads) c.self.view_is
    (batch_is c.self.inside.limits c.self.inside.history c.args.caller c.args.of c.in-Ok.batch c.self.invariant.legal.items c.self.invariant.each_loaded c.self.invariant.allowed room c.in-Ok.ensures.from c.in-Ok.ensures.outputs c.in-Ok.ensures.loads)

pub returns-in-Ok-enter_collect-clause-grows : goal.returns-in-Ok-enter_collect-clause-grows
returns-in-Ok-enter_collect-clause-grows c =
    let kept = subst (IsKept c.self.inside.history c.self.inside.limits c.self.inside.bytes) (sym c.as_mut.ensures.value) c.self.invariant in
    let past = items_of c.self.inside.history in
    subst (λ (j : Journal). Grows j.history (record { entries = c.enter_collect.new.entries; loads = c.self.inside.history.loads }) (collect_given c.args.caller c.args.of)) c.self.view_is
    (event_grows c.self.inside.history c.args.caller 0 0 (Collect c.args.of) c.enter_collect.new.entries c.in-Ok-enter_collect.cost (refl, refl) (c.in-Ok-enter_collect.ensures.entered past kept.legal.items kept.desk_is))

pub returns-in-Ok-enter_collect-clause-legal : goal.returns-in-Ok-enter_collect-clause-legal
returns-in-Ok-enter_collect-clause-legal c =
    let kept = subst (IsKept c.self.inside.history c.self.inside.limits c.self.inside.bytes) (sym c.as_mut.ensures.value) c.self.invariant in
    let past = items_of c.self.inside.history in
    let after = event_kept c.self.inside.history c.self.inside.limits c.self.inside.bytes c.as_mut.result.now c.enter_collect.new.desk kept c.args.caller 0 0 (Collect c.args.of) c.enter_collect.new.entries c.in-Ok-enter_collect.cost
    (refl, refl) (omega arith) (c.in-Ok-enter_collect.ensures.entered past kept.legal.items kept.desk_is) (c.in-Ok-enter_collect.ensures.stands past kept.legal.items kept.desk_is) in
    after.legal
