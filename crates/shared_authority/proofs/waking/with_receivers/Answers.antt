use Rattle.std.proofs.Common.{◌≡◌, ℕ, suc, ◌+◌, ◌<◌, sym, ap, ◌∙◌, ◌∷◌, ◌++◌, [], List, ⊎_elim, subst, take, arith}
use Rattle.std.proofs.Math.Seq.{take-suc}
use Rattle.history_lock.specs.Waking.{Wakes}
use Rattle.authority_model.specs.declared.message.Output.{Output}
use Rattle.authority_model.specs.Items.{count_to}
use Rattle.shared_authority.proofs.Readying.{receives}
use Rattle.shared_authority.proofs.waking.with_receivers.Goals as goal

pub loop-output-preserved : goal.loop-output-preserved
loop-output-preserved c =
    let kept = c.loop-output.invariant in
    let with = c.with-woken.ensures in
    let i = c.loop-output.output-index in
    let outputs = c.args.outputs.now in
    let o : Output = c.output-item.result in
    let grown : take (i + 1) outputs ≡ take i outputs ++ o ∷ [] =
    let next : i + 1 ≡ suc i = omega arith in
    ap (λ (n : ℕ). take n outputs) next ∙ take-suc outputs i o c.loop-output-test.true ∙ ap (λ (x : Output). take i outputs ++ x ∷ []) (sym c.output-item.is) in
    record {
      keeps = λ q before. with.keeps q (kept.keeps q before);
      receivers = λ q more.
          ⊎_elim
          (λ (earlier : 0 < count_to q (take i outputs)). with.keeps q (kept.receivers q earlier))
          (λ (is : o.to ≡ q). subst (Wakes c.with-woken.result) is with.wakes)
          (receives q (take i outputs) o (subst (λ (l : List Output). 0 < count_to q l) grown more));
    }
