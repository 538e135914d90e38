use Rattle.std.proofs.Common.{ℕ, ◌<◌, take}
use Rattle.history_lock.specs.Waking.{Wakes}
use Rattle.authority_model.specs.Items.{count_to}
use Rattle.shared_authority.proofs.waking.with_receivers.Given as goal

abbrev pub invariant-loop-output : goal.invariant-loop-output
invariant-loop-output l = record {
  keeps : (c : ℕ) → Wakes l.fn.before c → Wakes l.woken c;
  receivers : (c : ℕ) → 0 < count_to c (take l.output-index l.outputs) → Wakes l.woken c;
}
