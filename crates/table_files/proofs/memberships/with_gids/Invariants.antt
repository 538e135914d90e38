use Rattle.std.proofs.Common.{◌≡◌, ◌==◌, ℕ, nat_eq, fold, take}
use Rattle.authority_model.specs.Lists.{any_of}
use Rattle.indexmap.specs.IndexSet.{contains}
use Rattle.table_files.specs.Groups.{with_gid}
use Rattle.table_files.proofs.memberships.with_gids.Given as goal

abbrev pub invariant-loop-gid : goal.invariant-loop-gid
invariant-loop-gid l = record {
  same : (gid : ℕ) → contains nat_eq l.set gid ≡ any_of (λ g. gid == g) l.gids;
  folded : l.gids ≡ fold with_gid l.own (take l.gid-index l.more);
}
