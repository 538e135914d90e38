use Rattle.std.proofs.Common.{◌≡◌, ◌≢◌, ◌≤◌, ◌∷◌, ℕ, List, length}
use Rattle.std.specs.Str.{chars}
use Rattle.glob_match.specs.Glob.{glob, some_suffix}
use Rattle.glob_match.proofs.walk.behind_others.Given as goal

abbrev pub invariant-loop-scalar : goal.invariant-loop-scalar
invariant-loop-scalar l = record {
  star : l.wanted ≢ 42;
  any : l.wanted ≢ 63;
  same : (pattern : List ℕ) → some_suffix (glob (l.wanted ∷ pattern)) (chars l.text) ≡ some_suffix (glob (l.wanted ∷ pattern)) (chars l.from);
  shorter : length l.from ≤ length l.text;
}

abbrev pub decreases-loop-scalar : goal.decreases-loop-scalar
decreases-loop-scalar l = length l.from
