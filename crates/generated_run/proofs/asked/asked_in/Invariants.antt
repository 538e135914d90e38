-- What the rest asks is what all of the outputs ask.
use Rattle.std.proofs.Common.{◌≡◌, length}
use Rattle.generated_run.specs.Run.{asked_in}
use Rattle.generated_run.proofs.asked.asked_in.Given as goal

abbrev pub invariant-loop-rest : goal.invariant-loop-rest
invariant-loop-rest l = asked_in l.caller l.fn.serial l.outputs ≡ asked_in l.caller l.serial l.rest

abbrev pub decreases-loop-rest : goal.decreases-loop-rest
decreases-loop-rest l = length l.rest
