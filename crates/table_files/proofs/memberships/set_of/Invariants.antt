use Rattle.std.proofs.Common.{◌≡◌, ◌==◌, ℕ, nat_eq, take}
use Rattle.authority_model.specs.Lists.{any_of}
use Rattle.indexmap.specs.IndexSet.{contains}
use Rattle.table_files.proofs.memberships.set_of.Given as goal

abbrev pub invariant-loop-gid : goal.invariant-loop-gid
invariant-loop-gid l = (gid : ℕ) → contains nat_eq l.set gid ≡ any_of (λ g. gid == g) (take l.gid-index l.gids)
