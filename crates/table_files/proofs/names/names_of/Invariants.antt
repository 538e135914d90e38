use Rattle.std.proofs.Common.{◌≡◌, ℕ, List, take}
use Rattle.std.specs.Prelude.{bytes_eq}
use Rattle.authority_model.specs.Lists.{any_of}
use Rattle.table_files.specs.Sets.{has_name}
use Rattle.table_files.proofs.names.names_of.Given as goal

abbrev pub invariant-loop-row : goal.invariant-loop-row
invariant-loop-row g l = (name : List ℕ) → has_name l.names name ≡ any_of (λ row. bytes_eq name (g.T.Named.name row)) (take l.row-index l.rows)
