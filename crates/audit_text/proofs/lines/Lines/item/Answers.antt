use Rattle.pk_types.specs.Pieces.{pieces_of}
use Rattle.audit_text.proofs.Taking.{passed_on, no_line, value_taken, value_bad, not_the_end}
use Rattle.audit_text.proofs.lines.Lines.item.Goals as goal

pub returns-in_err-next : goal.returns-in_err-next
returns-in_err-next g c = record { taken = passed_on _ _ _ c.from_residual.result _ c.from_residual.ensures.1 (no_line c.args.word.now g.T.Spell.codec _ _ _ _ c.in_err-next.ensures.line) }

pub returns-in-Ok : goal.returns-in-Ok
returns-in-Ok g c = record {
  taken = value_taken c.args.word.now g.T.Spell.codec _ _ _ _ c.in_ok-next.ensures.line (rw c.deref.ensures.value at c.in-Ok.ensures.value);
}

pub returns-in-Err-Bad : goal.returns-in-Err-Bad
returns-in-Err-Bad g c =
    let bad = rw c.in-Err-Bad.field-0-is at c.in-Err-Bad.ensures.value in
    record {
      taken = value_bad c.args.word.now g.T.Spell.codec _ _ _ _ c.in_ok-next.ensures.line (rw c.deref.ensures.value at bad)
          (not_the_end c.args.word.now g.T.Spell.codec (pieces_of 32 c.deref.result.now) _ bad);
    }
