-- The first line is cut behind its LF, or is all.
use Rattle.keyfile_text.proofs.RawLines.{first_raw_line, first_clean, last_raw_line}
use Rattle.keyfile_text.proofs.slices.next_line.Goals as goal

pub returns-in-Some-clause-line : goal.returns-in-Some-clause-line
returns-in-Some-clause-line c = first_raw_line _ _ _ _ _ c.in-Some.ensures.found c.split_at.ensures.front c.split_at.ensures.back

pub returns-in-Some-clause-clean : goal.returns-in-Some-clause-clean
returns-in-Some-clause-clean c = first_clean _ _ _ _ _ c.in-Some.ensures.found c.split_at.ensures.front c.split_at.ensures.back

pub returns-in-None-clause-line : goal.returns-in-None-clause-line
returns-in-None-clause-line c = last_raw_line _ _ _ c.in-None.ensures.none c.if-is_empty.ensures c.split_at-in-None.ensures.front c.split_at-in-None.ensures.back
