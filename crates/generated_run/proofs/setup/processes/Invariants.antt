-- The processes so far.
use Rattle.std.proofs.Common.{◌≡◌}
use Rattle.generated_run.specs.Setup.{each_below, process}
use Rattle.generated_run.proofs.setup.processes.Given as goal

abbrev pub invariant-loop-i : goal.invariant-loop-i
invariant-loop-i l = l.processes ≡ each_below process l.i
