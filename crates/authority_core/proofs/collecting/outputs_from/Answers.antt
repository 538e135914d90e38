use Rattle.std.proofs.Common.{◌∙◌, ◌++◌, ◌∷◌, [], List, ap, sym, drop, take, arith}
use Rattle.authority_model.specs.declared.message.Output.{Output}
use Rattle.authority_model.specs.Items.{items_of}
use Rattle.authority_model.specs.Sent.{sent_to}
use Rattle.authority_laws.proofs.Batching.{sent_counted}
use Rattle.authority_core.proofs.Batching.{none_past, numbered_next, part_all, part_more}
use Rattle.authority_core.proofs.collecting.outputs_from.Goals as goal

pub unreachable-requires : goal.unreachable-requires
unreachable-requires c =
    let past = items_of c.args.history.now in
    let count = c.sent_count-count.ensures.count in
    none_past (sent_to past c.args.caller) c.loop-before.before (c.in_default.ensures.output ∙ numbered_next past c.args.caller c.loop-before.before)
    (omega (arith, c.loop-before-test.true, count, c.requires.peers.sent_are c.args.caller, sent_counted past c.args.caller))

pub loop-before-preserved : goal.loop-before-preserved
loop-before-preserved c =
    let past = items_of c.args.history.now in
    let xs : List Output = sent_to past c.args.caller in
    c.in_ok-try_push.ensures.ok
    ∙ ap (λ (os : List Output). os ++ c.in_ok-copy_of.field-0 ∷ []) c.loop-before.invariant
    ∙ ap (λ (o : Output). drop c.args.first (take c.loop-before.before xs) ++ o ∷ []) c.in_ok-copy_of.ensures.copy
    ∙ sym (part_more xs c.args.first c.loop-before.before c.in-Some.output.now c.loop-before.auto.before (sym (c.in-Some.ensures.output ∙ numbered_next past c.args.caller c.loop-before.before)))

pub returns : goal.returns
returns c = record {
  outputs =
      let past = items_of c.args.history.now in
      let count = c.sent_count-count.ensures.count in
      c.loop-before.invariant ∙ part_all (sent_to past c.args.caller) c.args.first c.loop-before.before (omega (arith, c.loop-before-test.false, count, c.requires.peers.sent_are c.args.caller, sent_counted past c.args.caller));
}
