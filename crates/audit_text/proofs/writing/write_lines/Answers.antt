use Rattle.std.proofs.Common.{List, ◌∷◌, [], subst, sym}
use Rattle.audit_text.specs.Lines.{line}
use Rattle.audit_text.specs.Writes.{Broke, Grew, MayWrite, desk, item_lines}
use Rattle.audit_text.proofs.Written.{nothing, broke_on, item_may, item_grew, item_broke, all_grew}
use Rattle.audit_text.proofs.writing.write_lines.Goals as goal

pub loop-value-init : goal.loop-value-init
loop-value-init g c = nothing _ _ _ c.requires.may.opened

pub write_line-requires-clause-may : goal.write_line-requires-clause-may
write_line-requires-clause-may g c κs within =
    item_may g.O.Sink.allowed g.O.Sink.held g.O.Sink.faults (desk c.args.buffer.now c.args.output.now) _ (λ v. (line c.args.word.now g.T.Spell.codec).spell v ∷ []) _ c.loop-value.value-index
    c.value-item.result c.loop-value-test.true c.value-item.is c.loop-value.invariant
    (subst (λ (vs : List _). MayWrite g.O.Sink.allowed g.O.Sink.held (desk c.args.buffer.now c.args.output.now) (item_lines (line c.args.word.now g.T.Spell.codec) vs))
    (sym c.as_slice-items.ensures.items) c.requires.may)

pub loop-value-preserved : goal.loop-value-preserved
loop-value-preserved g c =
    item_grew _ _ _ _ _ (λ v. (line c.args.word.now g.T.Spell.codec).spell v ∷ []) _ c.loop-value.value-index c.value-item.result c.loop-value-test.true c.value-item.is
    c.loop-value.invariant c.in_ok-write_line.ensures.writes

pub returns-in_err-write_line : goal.returns-in_err-write_line
returns-in_err-write_line g c = record {
  writes = broke_on _ _ _ _ c.from_residual.result _ _ c.from_residual.ensures.1
      (subst (λ (vs : List _). Broke g.O.Sink.held g.O.Sink.faults (desk c.args.buffer.now c.args.output.now) (desk c.write_line.new.buffer c.write_line.new.output)
      (item_lines (line c.args.word.now g.T.Spell.codec) vs))
      c.as_slice-items.ensures.items
      (item_broke _ _ _ _ _ (λ v. (line c.args.word.now g.T.Spell.codec).spell v ∷ []) _ c.loop-value.value-index c.value-item.result c.loop-value-test.true c.value-item.is
      c.loop-value.invariant c.in_err-write_line.ensures.writes));
}

pub returns : goal.returns
returns g c = record {
  writes = subst (λ (vs : List _). Grew g.O.Sink.held g.O.Sink.faults (desk c.args.buffer.now c.args.output.now) (desk c.loop-value.buffer c.loop-value.output)
      (item_lines (line c.args.word.now g.T.Spell.codec) vs))
      c.as_slice-items.ensures.items
      (all_grew _ _ _ _ (λ v. (line c.args.word.now g.T.Spell.codec).spell v ∷ []) _ c.loop-value.value-index c.loop-value-test.false c.loop-value.invariant);
}
