use Rattle.std.proofs.Common.{◌≡◌, ◌-◌, ◌≤◌, length, take}
use Rattle.keyfile_text.specs.Maps.{pairs_in}
use Rattle.keyfile_text.proofs.grouping.pair_list.Given as goal

abbrev pub invariant-loop-key : goal.invariant-loop-key
invariant-loop-key l = (l.list ≡ take (length l.list) (pairs_in l.pairs)) × (length l.list ≤ length (pairs_in l.pairs))

abbrev pub decreases-loop-key : goal.decreases-loop-key
decreases-loop-key l = length (pairs_in l.pairs) - length l.list
