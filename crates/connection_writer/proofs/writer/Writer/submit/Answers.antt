use Rattle.std.proofs.Common.{Option, sym, ◌∙◌, subst}
use Rattle.connection_writer.proofs.Collecting.{end_is_error}
use Rattle.connection_writer.proofs.Writes.{not_some}
use Rattle.connection_writer.specs.Writing.{StandsAt}
use Rattle.connection_writer.specs.declared.ends.WriterEnd.{WriterEnd}
use Rattle.connection_writer.specs.Promises.{Began}
use Rattle.connection_writer.proofs.writer.Writer.submit.Goals as goal

pub returns-clause-stands : goal.returns-clause-stands
returns-clause-stands g c = λ v held faults so.
    let limits = g.L.LimitsName.limits in
    let was = c.args.self.now in
    let now = c.write_collected.new in
    let none = not_some was.end (sym c.if-is_some.ensures) in
    subst (λ (end : Option WriterEnd). StandsAt limits was.of held faults v (g.O.Sink.held now.sink) (g.O.Sink.faults now.sink) now.pass end) (end_is_error c.write_collected.result ∙ sym c.err-self.ensures.value)
    (c.write_collected.ensures.stands was.pass.now v was.of held faults c.in_ok-place.ensures.collects (rw none at so))

pub write_collected-requires-clause-collects : goal.write_collected-requires-clause-collects
write_collected-requires-clause-collects g c κs within =
    let was = c.args.self.now in (
      was.pass.now,
      was.of,
      c.requires.of,
      c.in_ok-place.ensures.collects,
      subst (λ (end : Option WriterEnd). Began g.L.LimitsName.limits g.O.Sink.allowed was.of (g.O.Sink.held was.sink.now) (g.O.Sink.faults was.sink.now) was.pass.now end) (not_some was.end (sym c.if-is_some.ensures)) c.requires.began,
    )
