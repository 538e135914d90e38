use Rattle.std.proofs.Common.{◌≡◌, ◌-◌, ◌≤◌, length, take}
use Rattle.keyfile_text.specs.Maps.{groups_in}
use Rattle.keyfile_text.proofs.grouping.group_list.Given as goal

abbrev pub invariant-loop-name : goal.invariant-loop-name
invariant-loop-name l = (l.list ≡ take (length l.list) (groups_in l.groups)) × (length l.list ≤ length (groups_in l.groups))

abbrev pub decreases-loop-name : goal.decreases-loop-name
decreases-loop-name l = length (groups_in l.groups) - length l.list
