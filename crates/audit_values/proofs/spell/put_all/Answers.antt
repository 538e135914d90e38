use Rattle.std.proofs.Common.{◌∷◌, [], length}
use Rattle.audit_words.specs.Codecs.{Numeral}
use Rattle.audit_words.proofs.Putting.{item_put, items_put}
use Rattle.audit_values.proofs.spell.put_all.Goals as goal

pub loop-item-preserved : goal.loop-item-preserved
loop-item-preserved g c =
    item_put _ g.T.Spell.codec c.args.line.now c.loop-item.line c.put_words.new.line (Numeral (length c.args.items.now) ∷ [])
    c.args.items.now c.loop-item.item-index c.item-item.result c.loop-item-test.true c.item-item.is c.put_words.ensures.words c.loop-item.invariant

pub returns : goal.returns
returns g c = record {
  words =
      items_put _ g.T.Spell.codec c.args.line.now c.loop-item.line (Numeral (length c.args.items.now) ∷ []) c.args.items.now c.loop-item.item-index
      c.loop-item-test.false c.loop-item.invariant;
}
