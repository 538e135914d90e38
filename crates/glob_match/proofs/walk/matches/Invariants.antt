use Rattle.std.specs.Str.{chars}
use Rattle.glob_match.proofs.Stars.{Leads, pattern_left}
use Rattle.glob_match.proofs.walk.matches.Given as goal

abbrev pub invariant-loop-found : goal.invariant-loop-found
invariant-loop-found l = Leads (chars l.pattern) (chars l.text) l.found

abbrev pub decreases-loop-found : goal.decreases-loop-found
decreases-loop-found l = pattern_left l.found
