use Rattle.std.proofs.Common.{◌≡◌, ◌++◌, map, drop}
use Rattle.std.specs.Prelude.{flat_map}
use Rattle.std.specs.List.{enumerate_from}
use Rattle.pkla_files.specs.Orders.{files_of, all_files, file_key}
use Rattle.pkla_files.proofs.file_order.all_files.Given as goal

-- the files so far, and those to come
abbrev pub invariant-loop-place : goal.invariant-loop-place
invariant-loop-place l = map file_key l.files.items ++ flat_map (λ dir. files_of dir.0 dir.1) (enumerate_from l.place (drop l.place l.dirs)) ≡ all_files l.dirs
