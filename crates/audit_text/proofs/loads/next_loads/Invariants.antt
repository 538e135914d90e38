use Rattle.audit_text.specs.Audit.{load}
use Rattle.audit_text.specs.Takes.{stand}
use Rattle.audit_text.proofs.Taking.{TakesSome}
use Rattle.audit_text.proofs.loads.next_loads.Given as goal

abbrev pub invariant-loop : goal.invariant-loop
invariant-loop g l =
    TakesSome load l.count l.counter l.loads
    (stand l.fn.lines.number l.fn.lines.buffer (g.I.Source.left l.fn.input) (g.I.Source.faults l.fn.input) (g.I.Source.ended l.fn.input))
    (stand l.lines.number l.lines.buffer (g.I.Source.left l.input) (g.I.Source.faults l.input) (g.I.Source.ended l.input))
