use Rattle.std.proofs.Common.{◌≡◌, ◌++◌, List, ℕ, true, map, take}
use Rattle.table_files.specs.Sets.{has_name}
use Rattle.table_files.specs.Kept.{kept_gids, gid_of_each}
use Rattle.table_files.proofs.Keys.{now_of}
use Rattle.table_files.proofs.kept.Memberships.with_row.Given as goal

abbrev pub invariant-loop-member : goal.invariant-loop-member
invariant-loop-member l = record {
  names_stay : l.all.names ≡ l.initial.all.names;
  kept : (name : List ℕ) → has_name l.initial.all.names name ≡ true
      → kept_gids l.all name ≡ kept_gids l.initial.all name ++ gid_of_each name l.row.gid (map now_of (take l.member-index l.member-items));
}
