use Rattle.std.proofs.Common.{◌≡◌, cond, ◌&&◌, ◌==◌, sym, ap, ◌∙◌, None}
use Rattle.std.specs.Prelude.{bytes_eq}
use Rattle.std.specs.Cow.{cow_slice_items}
use Rattle.std.proofs.lemmas.Bool.Decides.{Decides-eqb}
use Rattle.std.proofs.lemmas.Slice.Eq.{bytes_eq-Decides}
use Rattle.challenge_book.specs.Keys.{entry_named}
use Rattle.challenge_book.proofs.Finding.{both}
use Rattle.challenge_book.proofs.IndexTaking.{at_some, keyed}
use Rattle.challenge_book.proofs.indexes.take_named.Goals as goal

pub returns-in-Some : goal.returns-in-Some
returns-in-Some c = record {
  takes = λ q.
      let k = c.in-Some._key.now in
      let passes = both (c.args.asker == k.0) (bytes_eq c.args.id.now (cow_slice_items k.1)) (keyed _ c.args.index.now.entries k c.in-Some.ensures.key) in
      let asker : c.args.asker ≡ k.0 = (Decides-eqb c.args.asker k.0).0 passes.0 in
      let id : c.args.id.now ≡ cow_slice_items k.1 = (bytes_eq-Decides c.args.id.now (cow_slice_items k.1)).0 passes.1 in
      (at_some _ _ _ (c.swap_remove_index.ensures.entry ∙ c.in-Some.ensures.entry) c.swap_remove_index.ensures.updates).0 q
      ∙ ap (λ n. cond ((n == q.0) && bytes_eq (cow_slice_items k.1) (cow_slice_items q.1)) None (entry_named c.args.index.now.entries q)) (sym asker)
      ∙ ap (λ x. cond ((c.args.asker == q.0) && bytes_eq x (cow_slice_items q.1)) None (entry_named c.args.index.now.entries q)) (sym id);
}
