use Rattle.std.proofs.Common.{length, ◌≤◌}
use Rattle.std.specs.Str.{chars}
use Rattle.glob_match.specs.Fits.{Fitted}
use Rattle.glob_match.proofs.walk.fit.Given as goal

abbrev pub invariant-loop-wanted : goal.invariant-loop-wanted
invariant-loop-wanted l = record {
  fitted : Fitted (chars l.pattern) (chars l.text) (chars l.pattern_left) (chars l.text_left);
  shorter : length l.pattern_left ≤ length l.pattern;
}

abbrev pub decreases-loop-wanted : goal.decreases-loop-wanted
decreases-loop-wanted l = length l.pattern_left
