use Rattle.std.proofs.Common.{length, ◌-◌, ◌≡◌, ◌≤◌, take}
use Rattle.journal_scan.proofs.same.same_items.Given as goal

-- the first items are the same
abbrev pub invariant-loop-at : goal.invariant-loop-at
invariant-loop-at g l = (l.at ≤ length l.left) × (take l.at l.left ≡ take l.at l.right)

abbrev pub decreases-loop-at : goal.decreases-loop-at
decreases-loop-at g l = length l.left - l.at
