use Rattle.std.proofs.Common.{◌≡◌, ◌∙◌, ◌++◌, ◌∷◌, [], ap, map, sym, false}
use Rattle.xml_pieces.specs.Keyed.{keys_of, has_key}
use Rattle.xml_pieces.proofs.KeyLists.{keys_push}
use Rattle.xml_pieces.proofs.keyed_texts.KeyedTexts.push.Goals as goal

pub invariant_of-self-2 : goal.invariant_of-self-2
invariant_of-self-2 c =
    let new : has_key c.args.key c.self.inside.pairs.items ≡ false = rw (← c.self.view_is) at c.requires.new in
    let is : c.in_ok-copy.copy.items ≡ c.args.key = c.in_ok-copy.ensures.items ∙ c.bytes.ensures.bytes in
    ap (map (λ k. k.items)) c.in_ok-insert.ensures.keys
    ∙ keys_push (λ k. k.items) c.self.inside.keys.keys c.in_ok-copy.copy c.self.inside.pairs.items c.args.key c.args.value c.self.invariant is new
    ∙ sym (ap keys_of (c.push_reserved.ensures.items ∙ ap (λ ps. ps ++ (record { key = c.args.key; value = c.args.value }) ∷ []) c.reserve.ensures.items))
