-- The outputs before the index were counted.
use Rattle.std.proofs.Common.{◌≡◌, ◌+◌, ℕ, drop}
use Rattle.authority_model.specs.Items.{count_to}
use Rattle.plain_view.specs.Plain.{count_among}
use Rattle.plain_lists.proofs.sent.carry_sent.Given as goal

abbrev pub invariant-loop-output : goal.invariant-loop-output
invariant-loop-output l = (c : ℕ) → count_among l.rows.items c + count_to c (drop l.output-index l.outputs) ≡ count_among l.initial.rows.items c + count_to c l.outputs
