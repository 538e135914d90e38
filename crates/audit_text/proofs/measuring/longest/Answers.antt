use Rattle.std.proofs.Common.{◌∷◌, [], arith, subst, All, List}
use Rattle.audit_text.specs.Lines.{line}
use Rattle.audit_text.specs.Writes.{IsWithin, item_lines}
use Rattle.audit_text.proofs.Measures.{more_within, all_within, one_line}
use Rattle.audit_text.proofs.measuring.longest.Goals as goal

pub loop-value-preserved : goal.loop-value-preserved
loop-value-preserved g c = record {
  within = more_within (λ v. (line c.args.word.now g.T.Spell.codec).spell v ∷ []) c.loop-value.most c.longer-most.result _ c.loop-value.value-index c.value-item.result
      c.loop-value-test.true c.value-item.is c.longer-most.ensures.more c.loop-value.invariant.within (one_line (IsWithin c.longer-most.result) _ c.longer-most.ensures.within);
  more = omega arith;
}

pub returns : goal.returns
returns g c = record {
  within = subst (λ (vs : List _). All (IsWithin c.loop-value.most) (item_lines (line c.args.word.now g.T.Spell.codec) vs)) c.as_slice-items.ensures.items
      (all_within (λ v. (line c.args.word.now g.T.Spell.codec).spell v ∷ []) c.loop-value.most _ c.loop-value.value-index c.loop-value-test.false c.loop-value.invariant.within);
  more = c.loop-value.invariant.more;
}
