use Rattle.std.proofs.Common.{◌∙◌}
use Rattle.xml_pieces.proofs.KeyLists.{same_any}
use Rattle.xml_pieces.proofs.keyed_texts.KeyedTexts.has.Goals as goal

pub returns : goal.returns
returns c = record { has = rw (← c.self.view_is) (c.contains.ensures ∙ same_any (λ k. k.items) c.args.key.now c.self.inside.keys.keys c.self.inside.pairs.items c.self.invariant) }
