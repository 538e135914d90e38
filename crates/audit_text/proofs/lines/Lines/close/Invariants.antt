use Rattle.std.proofs.Common.{◌≡◌, ℕ, List}
use Rattle.pk_outside.specs.Streams.{Gave}
use Rattle.audit_text.proofs.lines.Lines.close.Given as goal

abbrev pub invariant-rest : goal.invariant-rest
invariant-rest g l = record {
  gave : (read : List ℕ) × Gave (g.I.Source.left l.fn.input) (g.I.Source.left l.input) read;
  quiet : g.I.Source.faults l.input ≡ g.I.Source.faults l.fn.input;
}

abbrev pub decreases-rest : goal.decreases-rest
decreases-rest g l = g.I.Source.budget l.input
