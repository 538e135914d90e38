-- The first line is cut at its LF, or is all.
use Rattle.table_files.proofs.Lines.{first_line, last_line}
use Rattle.table_files.proofs.table.next_line.Goals as goal

pub returns-in-Some-clause-line : goal.returns-in-Some-clause-line
returns-in-Some-clause-line c = first_line _ _ _ c.in-Some.ensures.found

pub returns-in-None-clause-line : goal.returns-in-None-clause-line
returns-in-None-clause-line c = last_line _ _ _ c.in-None.ensures.none c.if-is_empty.ensures c.split_at.ensures.front c.split_at.ensures.back
