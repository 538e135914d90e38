use Rattle.std.proofs.Common.{◌++◌}
use Rattle.audit_text.specs.Lines.{line, spell_items}
use Rattle.audit_text.proofs.Loops.{item_written, all_written}
use Rattle.audit_text.proofs.pieces.push_lines.Goals as goal

pub loop-value-preserved : goal.loop-value-preserved
loop-value-preserved g c =
    item_written _ (line c.args.word.now g.T.Spell.codec) c.loop-value.text.items c.push_line.new.text.items (c.args.text.now.items ++ spell_items (line c.args.word.now g.T.Spell.codec) c.args.values.now)
    c.args.values.now c.loop-value.value-index c.value-item.result c.loop-value-test.true c.value-item.is c.in_ok-push_line.ensures.line c.loop-value.invariant

pub returns : goal.returns
returns g c = record {
  lines =
      all_written _ (line c.args.word.now g.T.Spell.codec) c.loop-value.text.items (c.args.text.now.items ++ spell_items (line c.args.word.now g.T.Spell.codec) c.args.values.now)
      c.args.values.now c.loop-value.value-index c.loop-value-test.false c.loop-value.invariant;
}
