use Rattle.std.proofs.Common.{◌≡◌, ℕ, ◌<◌, take}
use Rattle.history_lock.specs.Waking.{Wakes}
use Rattle.authority_model.specs.Items.{count_to}
use Rattle.shared_authority.proofs.waking.others_woken_by.Given as goal

abbrev pub invariant-loop-output : goal.invariant-loop-output
invariant-loop-output l = (c : ℕ) → ¬ (c ≡ l.fn.entry.caller) → 0 < count_to c (take l.output-index l.output-items) → Wakes l.others c
