use Rattle.std.proofs.Common.{◌≡◌, ◌++◌, drop}
use Rattle.std.specs.Prelude.{filter, not}
use Rattle.authority_core.specs.Unlisting.{is_process}
use Rattle.authority_core.proofs.unlisting.other_rows.Given as goal

-- the rows so far, and those to come
abbrev pub invariant-loop-row : goal.invariant-loop-row
invariant-loop-row l = l.others ++ filter (λ row. not (is_process l.pid l.start row)) (drop l.row-index l.rows) ≡ filter (λ row. not (is_process l.pid l.start row)) l.rows
