-- A message, a fault, or more bytes that are still less than a message.
use Rattle.std.proofs.Common.{◌∙◌, sym, ap, ◌++◌}
use Rattle.pk_outside.proofs.Written.{Gave-more}
use Rattle.dbus_values.specs.Next.{next_of, seen}
use Rattle.client_link.proofs.Waited.{still_partial}
use Rattle.client_link.proofs.awaiting.await_message.Goals as goal

pub returns-in-Whole-clause-awaits : goal.returns-in-Whole-clause-awaits
returns-in-Whole-clause-awaits g c =
    let t = c.pieces.invariant.taken in
    (t.0, t.1, (t.2, record { message = seen c.in-Whole.message; used = c.in-Whole.used; whole = ap next_of (sym t.2 ∙ sym c.bytes.ensures.bytes) ∙ sym c.in-Whole.ensures.exact }))

pub returns-in-End-clause-awaits : goal.returns-in-End-clause-awaits
returns-in-End-clause-awaits g c =
    let t = c.pieces.invariant.taken in
    let got = c.in-End.ensures.fills in (
      t.0 ++ got.0,
      Gave-more _ _ _ t.0 got.0 t.1 got.1,
      (
        still_partial _ t.0 got.0 c.bytes-in-pieces.result.now c.pieces.buffer c.fill.new.self c.awaited-wanted.result c.bytes-in-pieces.ensures.bytes
            (c.in-Partial.ensures.exact ∙ ap next_of (c.bytes.ensures.bytes ∙ sym c.bytes-in-pieces.ensures.bytes)) c.awaited-wanted.ensures.exact t.2 got.2.0 got.2.1,
        got.2.2,
      ),
    )

pub returns-in-ReadFault-clause-awaits : goal.returns-in-ReadFault-clause-awaits
returns-in-ReadFault-clause-awaits g c =
    let t = c.pieces.invariant.taken in
    let got = c.in-ReadFault.ensures.fills in (
      t.0 ++ got.0,
      Gave-more _ _ _ t.0 got.0 t.1 got.1,
      still_partial _ t.0 got.0 c.bytes-in-pieces.result.now c.pieces.buffer c.fill.new.self c.awaited-wanted.result c.bytes-in-pieces.ensures.bytes
          (c.in-Partial.ensures.exact ∙ ap next_of (c.bytes.ensures.bytes ∙ sym c.bytes-in-pieces.ensures.bytes)) c.awaited-wanted.ensures.exact t.2 got.2.0 got.2.1,
    )

pub returns-in-NoMemory-clause-awaits : goal.returns-in-NoMemory-clause-awaits
returns-in-NoMemory-clause-awaits g c =
    let t = c.pieces.invariant.taken in
    let got = c.in-NoMemory.ensures.fills in
    (t.0 ++ got.0, Gave-more _ _ _ t.0 got.0 t.1 got.1, tt)
