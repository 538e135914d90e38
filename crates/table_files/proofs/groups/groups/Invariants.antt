use Rattle.std.proofs.Common.{◌≡◌, map, take}
use Rattle.table_files.specs.Kept.{listing_in}
use Rattle.table_files.proofs.groups.groups.Given as goal

abbrev pub invariant-loop-row : goal.invariant-loop-row
invariant-loop-row l = l.groups ≡ map (λ row. (listing_in row).group) (take l.row-index l.rows)
