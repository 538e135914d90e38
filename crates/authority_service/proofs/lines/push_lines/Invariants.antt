-- The lines so far.
use Rattle.std.proofs.Common.{◌≡◌, ◌++◌, List, take, string_bytes}
use Rattle.authority_model.specs.declared.journal.Item.{Item}
use Rattle.journal_scan.specs.Orderly.{AreCounts}
use Rattle.authority_service.specs.Lines.{connection_lines}
use Rattle.authority_service.proofs.lines.push_lines.Given as goal

abbrev pub invariant-loop-line : goal.invariant-loop-line
invariant-loop-line l = (past : List Item) → AreCounts past l.counts → string_bytes l.text ≡ string_bytes l.fn.text ++ connection_lines past (take l.line-index l.lines)
