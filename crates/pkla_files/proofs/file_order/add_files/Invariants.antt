use Rattle.std.proofs.Common.{◌≡◌, ◌++◌, map, drop}
use Rattle.std.specs.List.{enumerate_from}
use Rattle.pkla_files.specs.Orders.{file_in, files_of, file_key}
use Rattle.pkla_files.proofs.file_order.add_files.Given as goal

-- the files so far, and those to come
abbrev pub invariant-loop-file : goal.invariant-loop-file
invariant-loop-file l = map file_key l.files.items ++ map (file_in l.place l.dir) (enumerate_from l.file (drop l.file l.dir.files)) ≡ map file_key l.initial.files.items ++ files_of l.place l.dir
