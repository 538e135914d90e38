use Rattle.std.proofs.Common.{◌∙◌}
use Rattle.xml_pieces.proofs.KeyLists.{same_place, same_any}
use Rattle.xml_pieces.proofs.keyed_texts.KeyedTexts.place_of.Goals as goal

pub returns-clause-place : goal.returns-clause-place
returns-clause-place c = rw (← c.self.view_is) (c.get_index_of.ensures.index ∙ same_place (λ k. k.items) c.args.key.now c.self.inside.keys.keys c.self.inside.pairs.items c.self.invariant)

pub returns-clause-found : goal.returns-clause-found
returns-clause-found c = rw (← c.self.view_is) (c.get_index_of.ensures.found ∙ same_any (λ k. k.items) c.args.key.now c.self.inside.keys.keys c.self.inside.pairs.items c.self.invariant)
