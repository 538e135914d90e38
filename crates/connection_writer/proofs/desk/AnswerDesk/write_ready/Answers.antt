use Rattle.std.proofs.Common.{ℕ, sym, ◌∙◌, subst}
use Rattle.connection_writer.specs.Writing.{StandsAt}
use Rattle.connection_writer.specs.Promises.{MayAnswer}
use Rattle.connection_writer.proofs.desk.AnswerDesk.write_ready.Goals as goal

pub invariant_of-self : goal.invariant_of-self
invariant_of-self g c =
    let B = g.B.Begun in
    let limits = g.L.LimitsName.limits in
    let old = c.self.inside.writer in
    let new = c.write_ready.new.self in
    let e = c.write_ready.ensures in
    let i = c.self.invariant in (
      e.of ∙ i.0,
      i.1,
      e.names.0 ∙ i.2,
      e.names.1 ∙ i.3,
      subst (λ (n : ℕ). StandsAt limits n B.held B.faults B.pass (g.O.Sink.held new.sink.now) (g.O.Sink.faults new.sink.now) new.pass.now new.end) i.0
          (e.stands B.pass B.held B.faults (subst (λ (n : ℕ). StandsAt limits n B.held B.faults B.pass (g.O.Sink.held old.sink.now) (g.O.Sink.faults old.sink.now) old.pass.now old.end) (sym i.0) i.4)),
      i.5,
    )

pub write_ready-requires-clause-began : goal.write_ready-requires-clause-began
write_ready-requires-clause-began g c κs within =
    let B = g.B.Begun in
    let old = c.self.inside.writer in
    let i = c.self.invariant in
    record {
      held_first = B.held;
      faults_first = B.faults;
      pass_first = B.pass;
      may = subst (MayAnswer g.O.Sink.allowed B.held B.pass.number) (sym i.0) i.5;
      stands = subst (λ (n : ℕ). StandsAt g.L.LimitsName.limits n B.held B.faults B.pass (g.O.Sink.held old.sink.now) (g.O.Sink.faults old.sink.now) old.pass.now old.end) (sym i.0) i.4;
    }
