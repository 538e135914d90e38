use Rattle.std.proofs.Common.{◌≡◌, ◌<◌, ◌∷◌, length, slice_index_or, sym, ◌∙◌, rules, subst}
use Rattle.journal_scan.specs.declared.collects.Collection.{Collection}
use Rattle.journal_scan.specs.Standing.{IsCollection}
use Rattle.journal_scan.proofs.Collecting.{other_caller}
use Rattle.journal_scan.proofs.Tables.{table_set}
use Rattle.journal_scan.proofs.collects.Collects.collect.Goals as goal

pub returns : goal.returns
returns c = record {
  only = (λ yes size past i caller event sent_is table.
      let rows = c.args.self.now.rows.items in
      let n = c.args.caller in
      let row : Collection = c.index.result.now in
      let next : Collection = c.in-Some.next in
      let inside : n < length rows = search rules in
      let at : row ≡ slice_index_or rows n row = search rules in
      let here : IsCollection past n row = subst (IsCollection past n) (sym at) (table.each n row inside) in
      let told = c.in-Some.ensures.after past i event sent_is (subst (λ m. IsCollection past m row) (sym caller) here) in
      (told.0, table_set size (IsCollection past) (IsCollection (i ∷ past)) rows n next table inside (subst (λ m. IsCollection (i ∷ past) m next) caller told.1) (λ m x other. other_caller past i m x (λ e. other (e ∙ caller)))));
}
