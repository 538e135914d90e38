use Rattle.std.proofs.Common.{◌≡◌, take}
use Rattle.authority_laws.specs.Batches.{greatest_load}
use Rattle.authority_core.proofs.collecting.greatest_named.Given as goal

abbrev pub invariant-loop-output : goal.invariant-loop-output
invariant-loop-output l = l.greatest ≡ greatest_load (take l.output-index l.outputs)
