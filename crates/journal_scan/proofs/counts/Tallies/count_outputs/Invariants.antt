use Rattle.std.proofs.Common.{◌≡◌, ◌≤◌, ℕ, length, take}
use Rattle.authority_model.specs.Items.{count_to}
use Rattle.journal_scan.specs.declared.counts.Tally.{Tally}
use Rattle.journal_scan.specs.Standing.{with_answers}
use Rattle.journal_scan.specs.Tables.{IsTable}
use Rattle.journal_scan.proofs.counts.Tallies.count_outputs.Given as goal

abbrev pub invariant-loop-output : goal.invariant-loop-output
invariant-loop-output l = record {
  within : (c : ℕ) → length l.initial.self.rows.items ≤ c → count_to c (take l.output-index l.outputs) ≡ 0;
  sized : length l.self.rows.items ≡ length l.initial.self.rows.items;
  counted : (size : ℕ) (f : ℕ → Tally) → IsTable size (λ c tally. tally ≡ f c) l.initial.self.rows.items → IsTable size (λ c tally. tally ≡ with_answers (f c) (count_to c (take l.output-index l.outputs))) l.self.rows.items;
}
