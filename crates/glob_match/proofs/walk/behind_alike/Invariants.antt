use Rattle.std.proofs.Common.{length, ◌≤◌, ◌-◌, drop}
use Rattle.std.specs.Str.{chars}
use Rattle.glob_match.specs.Fits.{Fitted}
use Rattle.glob_match.proofs.walk.behind_alike.Given as goal

abbrev pub invariant-loop-alike : goal.invariant-loop-alike
invariant-loop-alike l = record {
  fitted : Fitted (chars l.pattern) (chars l.text) (chars (drop l.alike l.pattern)) (chars (drop l.alike l.text));
  within : l.alike ≤ length l.pattern;
  within_text : l.alike ≤ length l.text;
}

abbrev pub decreases-loop-alike : goal.decreases-loop-alike
decreases-loop-alike l = length l.pattern - l.alike
