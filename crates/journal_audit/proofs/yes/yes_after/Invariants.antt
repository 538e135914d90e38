-- The outputs before the index were counted.
use Rattle.std.proofs.Common.{◌≡◌, ◌+◌, drop}
use Rattle.journal_audit.specs.Fault.{yes_among}
use Rattle.journal_audit.proofs.yes.yes_after.Given as goal

abbrev pub invariant-loop-output : goal.invariant-loop-output
invariant-loop-output l = l.count + yes_among (drop l.output-index l.outputs) ≡ l.before + yes_among l.outputs
