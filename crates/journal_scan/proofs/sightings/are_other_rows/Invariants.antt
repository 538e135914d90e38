use Rattle.std.proofs.Common.{◌≡◌, ◌++◌, drop, take}
use Rattle.journal_scan.specs.Sightings.{other_rows}
use Rattle.journal_scan.proofs.sightings.are_other_rows.Given as goal

-- the rows so far stand in their places, and those to come are still to be looked for
abbrev pub invariant-loop-row : goal.invariant-loop-row
invariant-loop-row l = take l.at l.others ++ other_rows l.pid l.start (drop l.row-index l.rows) ≡ other_rows l.pid l.start l.rows
