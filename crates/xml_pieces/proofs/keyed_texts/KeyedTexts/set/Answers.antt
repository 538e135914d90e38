use Rattle.std.proofs.Common.{◌≡◌, ◌∙◌, ap, sym, Some}
use Rattle.xml_pieces.specs.Keyed.{place_of_key}
use Rattle.xml_pieces.proofs.KeyLists.{keys_set}
use Rattle.xml_pieces.proofs.keyed_texts.KeyedTexts.set.Goals as goal

pub invariant_of-self : goal.invariant_of-self
invariant_of-self c =
    let found : place_of_key c.args.key c.args.self.now ≡ Some c.in-Some.i = ap (λ k. place_of_key k c.args.self.now) (sym c.bytes.ensures.bytes) ∙ sym c.place_of.ensures.place ∙ c.in-Some.is in
    c.self.invariant ∙ sym (keys_set c.self.inside.pairs.items c.in-Some.i (record { key = c.args.key; value = c.args.value }) (ap (place_of_key c.args.key) c.self.view_is ∙ found))
