use Rattle.std.specs.Prelude.{ℕ, List, []}
use Rattle.authority_model.specs.Items.{before}
use Rattle.journal_scan.specs.declared.lines.ConnectionLine.{ConnectionLine}
use Rattle.journal_scan.specs.Standing.{Stands}
use Rattle.journal_scan.proofs.scan.Scan.walk.Given as goal

abbrev pub invariant-loop-entry : goal.invariant-loop-entry
invariant-loop-entry l = (size : ℕ) (lines : List ConnectionLine) → Stands size lines [] l.initial.self → Stands size lines (before l.history l.entry-index) l.self
