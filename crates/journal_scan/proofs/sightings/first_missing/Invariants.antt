use Rattle.std.proofs.Common.{length, ◌-◌, ◌≤◌}
use Rattle.journal_scan.proofs.sightings.first_missing.Given as goal

abbrev pub invariant-loop-at : goal.invariant-loop-at
invariant-loop-at l = l.at ≤ length l.rows

abbrev pub decreases-loop-at : goal.decreases-loop-at
decreases-loop-at l = length l.rows - l.at
