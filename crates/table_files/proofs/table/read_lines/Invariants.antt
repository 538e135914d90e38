use Rattle.std.proofs.Common.{◌≡◌, ◌+◌, ◌≤◌, length}
use Rattle.pk_types.specs.Pieces.{lines_of}
use Rattle.table_files.specs.Tables.{after_lines}
use Rattle.table_files.proofs.table.read_lines.Given as goal

abbrev pub invariant-loop-line : goal.invariant-loop-line
invariant-loop-line g l = record {
  so_far : after_lines (g.T.Table.with_line l.table) l.number (lines_of l.rest) (g.T.Table.rows l.table)
      ≡ after_lines (g.T.Table.with_line l.initial.table) 1 (lines_of l.bytes) (g.T.Table.rows l.initial.table);
  counted : l.number + length l.rest ≤ length l.bytes + 1;
}

abbrev pub decreases-loop-line : goal.decreases-loop-line
decreases-loop-line g l = length l.rest
