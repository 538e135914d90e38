-- The actions so far.
use Rattle.std.proofs.Common.{◌≡◌}
use Rattle.generated_run.specs.Setup.{each_below, action}
use Rattle.generated_run.proofs.setup.actions.Given as goal

abbrev pub invariant-loop-i : goal.invariant-loop-i
invariant-loop-i l = l.actions ≡ each_below action l.i
