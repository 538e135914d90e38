use Rattle.std.proofs.Common.{◌≡◌, ℕ, cond, sym, ap, ◌∙◌, List, None}
use Rattle.std.specs.Prelude.{bytes_eq}
use Rattle.std.specs.Cow.{cow_slice_items}
use Rattle.std.proofs.lemmas.Slice.Eq.{bytes_eq-Decides}
use Rattle.challenge_book.specs.Keys.{entry_of_cookie}
use Rattle.challenge_book.proofs.IndexTaking.{at_some, keyed}
use Rattle.challenge_book.proofs.indexes.take_cookie.Goals as goal

pub returns-in-Some : goal.returns-in-Some
returns-in-Some c = record {
  takes = λ q.
      let k = c.in-Some._key.now in
      let same : c.args.cookie.now ≡ cow_slice_items k = (bytes_eq-Decides c.args.cookie.now (cow_slice_items k)).0 (keyed _ c.args.index.now.entries k c.in-Some.ensures.key) in
      (at_some _ _ _ (c.swap_remove_index.ensures.entry ∙ c.in-Some.ensures.entry) c.swap_remove_index.ensures.updates).0 q
      ∙ ap (λ (x : List ℕ). cond (bytes_eq x (cow_slice_items q)) None (entry_of_cookie c.args.index.now.entries q)) (sym same);
}
