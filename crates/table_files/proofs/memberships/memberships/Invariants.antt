use Rattle.std.proofs.Common.{◌≡◌, List, ℕ, true, map, take}
use Rattle.table_files.specs.Sets.{has_name}
use Rattle.table_files.specs.Kept.{listing_in, kept_gids, gids_of_each}
use Rattle.table_files.proofs.memberships.memberships.Given as goal

abbrev pub invariant-loop-row : goal.invariant-loop-row
invariant-loop-row l = record {
  names_stay : l.all.names ≡ l.initial.all.names;
  kept : (name : List ℕ) → has_name l.initial.all.names name ≡ true → kept_gids l.all name ≡ gids_of_each name (map listing_in (take l.row-index l.rows));
}
