-- Root and the users so far.
use Rattle.std.proofs.Common.{◌≡◌, ◌∷◌}
use Rattle.generated_run.specs.Setup.{each_below, root, user}
use Rattle.generated_run.proofs.setup.users.Given as goal

abbrev pub invariant-loop-i : goal.invariant-loop-i
invariant-loop-i l = l.users ≡ root ∷ each_below user l.i
