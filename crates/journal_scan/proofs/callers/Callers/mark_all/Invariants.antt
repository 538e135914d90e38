use Rattle.std.proofs.Common.{take, length}
use Rattle.journal_scan.specs.Standing.{AreMarked}
use Rattle.journal_scan.proofs.callers.Callers.mark_all.Given as goal

abbrev pub invariant-loop-line : goal.invariant-loop-line
invariant-loop-line l = AreMarked (length l.initial.self.places.items) (take l.line-index l.lines) l.self
