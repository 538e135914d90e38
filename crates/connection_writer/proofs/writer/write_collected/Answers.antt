use Rattle.std.proofs.Common.{Option, List, ℕ, false, sym, subst, arith}
use Rattle.pk_outside.specs.Streams.{Got, GotFront}
use Rattle.connection_writer.specs.Writing.{Writing}
use Rattle.connection_writer.specs.declared.ends.WriteStop.{WriteStop}
use Rattle.connection_writer.specs.Written.{StopCause}
use Rattle.connection_writer.proofs.Collecting.{told, refused_so}
use Rattle.connection_writer.proofs.Writes.{batch_front, batch_written, gone_written, refused_written, writable}
use Rattle.connection_writer.proofs.Written.{rose_later}
use Rattle.shared_authority.specs.declared.collecting.Collected.TheVariants.{Batch, Gone}
use Rattle.connection_writer.proofs.Promising.{batch_may}
use Rattle.connection_writer.proofs.writer.write_collected.Goals as goal

pub write_batch-requires-clause-writable : goal.write_batch-requires-clause-writable
write_batch-requires-clause-writable g c κs within =
    let i = c.in-Some-Ok-Batch in
    let r = c.requires.collects in
    writable r.1 r.0 c.args.pass.now i.batch r.2 (told g.L.LimitsName.limits r.0 c.args.pass.now r.1 c.args.now i.field-0 i.field-0-0 (Batch i.batch) i.is i.field-0-is i.field-0-0-is r.3)

pub returns-in-Some-Ok-Gone-clause-stands : goal.returns-in-Some-Ok-Gone-clause-stands
returns-in-Some-Ok-Gone-clause-stands g c = λ before v of held faults collects so.
    let i = c.in-Some-Ok-Gone in
    gone_written held (g.O.Sink.held c.args.sink.now) of v before c.args.pass.now so.0
    (told g.L.LimitsName.limits before c.args.pass.now of c.args.now i.field-0 i.field-0-0 Gone i.is i.field-0-is i.field-0-0-is collects)

pub returns-in-Ok-clause-stands : goal.returns-in-Ok-clause-stands
returns-in-Ok-clause-stands g c = λ before v of held faults collects so.
    let i = c.in-Some-Ok-Batch in
    let le = so.1 in
    let later = c.in-Ok.ensures.later in (
      batch_written held (g.O.Sink.held c.args.sink.now) (g.O.Sink.held c.write_batch.new.sink) of v before c.args.pass.now i.batch so.0
          (told g.L.LimitsName.limits before c.args.pass.now of c.args.now i.field-0 i.field-0-0 (Batch i.batch) i.is i.field-0-is i.field-0-0-is collects)
          c.in-Ok.ensures.writes,
      omega (arith, le, later),
    )

pub returns-in-Err-Failed-clause-stands : goal.returns-in-Err-Failed-clause-stands
returns-in-Err-Failed-clause-stands g c = λ before v of held faults collects so.
    let i = c.in-Some-Ok-Batch in (
      batch_front held (g.O.Sink.held c.args.sink.now) (g.O.Sink.held c.write_batch.new.sink) of v before c.args.pass.now i.batch so.0
          (told g.L.LimitsName.limits before c.args.pass.now of c.args.now i.field-0 i.field-0-0 (Batch i.batch) i.is i.field-0-is i.field-0-0-is collects)
          c.in-Err-Failed.ensures.writes,
      rose_later faults (g.O.Sink.faults c.args.sink.now) (g.O.Sink.faults c.write_batch.new.sink) so.1
          (subst (λ (s : WriteStop). StopCause (g.O.Sink.faults c.args.sink.now) (g.O.Sink.faults c.write_batch.new.sink) s) c.in-Err-Failed.field-0-is c.in-Err-Failed.ensures.stopped),
    )

pub returns-in-Err-NoMemory-clause-stands : goal.returns-in-Err-NoMemory-clause-stands
returns-in-Err-NoMemory-clause-stands g c = λ before v of held faults collects so.
    let i = c.in-Some-Ok-Batch in
    subst (λ (h : Option (List ℕ)). Writing false (GotFront held h) of v c.args.pass.now) (sym c.close.ensures.held)
    (batch_front held (g.O.Sink.held c.args.sink.now) (g.O.Sink.held c.write_batch.new.sink) of v before c.args.pass.now i.batch so.0
    (told g.L.LimitsName.limits before c.args.pass.now of c.args.now i.field-0 i.field-0-0 (Batch i.batch) i.is i.field-0-is i.field-0-0-is collects)
    c.in-Err-NoMemory.ensures.writes)

pub returns-in-Some-Err-clause-stands : goal.returns-in-Some-Err-clause-stands
returns-in-Some-Err-clause-stands g c = λ before v of held faults collects so.
    let i = c.in-Some-Err in (
      subst (λ (h : Option (List ℕ)). Writing false (Got held h) of v c.end-cause.new.pass) (sym c.close-in-Some-Err.ensures.held)
          (refused_written g.L.LimitsName.limits held (g.O.Sink.held c.args.sink.now) of v before c.args.pass.now c.end-cause.new.pass i.refused so.0
          (refused_so g.L.LimitsName.limits before c.args.pass.now of c.args.now i.field-0 i.refused i.is i.field-0-is collects) c.end-cause.ensures.learned),
      c.end-cause.ensures.fits,
      c.end-cause.ensures.knows,
    )

pub write_batch-requires-clause-may : goal.write_batch-requires-clause-may
write_batch-requires-clause-may g c κs within =
    let i = c.in-Some-Ok-Batch in
    let r = c.requires.collects in
    let b = r.4 in
    batch_may g.O.Sink.allowed b.held_first (g.O.Sink.held c.args.sink.now) r.1 b.pass_first r.0 c.args.pass.now i.batch b.may b.stands.0
    (told g.L.LimitsName.limits r.0 c.args.pass.now r.1 c.args.now i.field-0 i.field-0-0 (Batch i.batch) i.is i.field-0-is i.field-0-0-is r.3)
