use Rattle.std.proofs.Common.{◌≡◌, length}
use Rattle.std.specs.Str.{chars}
use Rattle.glob_match.specs.Glob.{glob, some_suffix}
use Rattle.glob_match.proofs.walk.first_fit.Given as goal

abbrev pub invariant-loop-found : goal.invariant-loop-found
invariant-loop-found l = some_suffix (glob (chars l.pattern)) (chars l.text) ≡ some_suffix (glob (chars l.pattern)) (chars l.from)

abbrev pub decreases-loop-found : goal.decreases-loop-found
decreases-loop-found l = length l.from
