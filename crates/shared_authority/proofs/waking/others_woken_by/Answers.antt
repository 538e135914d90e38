use Rattle.std.proofs.Common.{◌≡◌, ℕ, suc, ◌+◌, ◌<◌, sym, ap, ◌∙◌, ◌∷◌, ◌++◌, [], List, ⊎_elim, subst, take, arith}
use Rattle.std.proofs.Math.Seq.{take-suc}
use Rattle.history_lock.specs.declared.woken.Woken.{Woken}
use Rattle.history_lock.specs.Waking.{Wakes}
use Rattle.authority_model.specs.declared.message.Output.{Output}
use Rattle.authority_model.specs.Items.{count_to}
use Rattle.shared_authority.proofs.Readying.{receives}
use Rattle.shared_authority.proofs.waking.others_woken_by.Goals as goal
use Rattle.shared_authority.proofs.waking.others_woken_by.Goals.{then-output-entry, else-output-entry}

pub loop-output-preserved : goal.loop-output-preserved
loop-output-preserved c =
    let kept = c.loop-output.invariant in
    let i = c.loop-output.output-index in
    let outputs = c.as_slice-output-items.result.now in
    let o : Output = c.output-item.result in
    let grown : take (i + 1) outputs ≡ take i outputs ++ o ∷ [] =
    let next : i + 1 ≡ suc i = omega arith in
    ap (λ (n : ℕ). take n outputs) next ∙ take-suc outputs i o c.loop-output-test.true ∙ ap (λ (x : Output). take i outputs ++ x ∷ []) (sym c.output-item.is) in
    λ q other more.
    let before_or_now = receives q (take i outputs) o (subst (λ (l : List Output). 0 < count_to q l) grown more) in
    elim c.if-output-entry.branch [
      | then-output-entry w ↦ subst (λ (x : Woken). Wakes x q) (sym w.others-is) (⊎_elim
          (λ (earlier : 0 < count_to q (take i outputs)). w.with-others.ensures.keeps q (kept q other earlier))
          (λ (is : o.to ≡ q). subst (Wakes w.with-others.result) is w.with-others.ensures.wakes)
          before_or_now)
      | else-output-entry w ↦ subst (λ (x : Woken). Wakes x q) (sym w.others-is) (⊎_elim
          (λ (earlier : 0 < count_to q (take i outputs)). kept q other earlier)
          (λ (is : o.to ≡ q). absurd (other (sym is ∙ w.if-output-entry.false)))
          before_or_now)
    ]
