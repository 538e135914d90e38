use Rattle.std.proofs.Common.{nat_eq, sym, ap, ◌∙◌, subst, ◌++◌, ◌∷◌, []}
use Rattle.std.specs.Prelude.{find}
use Rattle.indexmap.proofs.CallerLemmas.{insert_entry-new}
use Rattle.entry_changes.specs.Changes.{is_of_entry}
use Rattle.challenge_book.specs.Rows.{Rows, rows_in, AreRows}
use Rattle.challenge_book.proofs.RowChanging.{none_of, unlisted, pushed}
use Rattle.challenge_book.proofs.rows.PendingRows.push.Goals as goal

pub invariant_of-self : goal.invariant_of-self
invariant_of-self c =
    let others = none_of c.self.inside.rows c.args.filed.row.entry c.self.inside.order.entries c.self.invariant (ap (λ (x : Rows). find (is_of_entry c.args.filed.row.entry) x.items) c.self.view_is ∙ c.requires.fresh) in
    let grown = c.in-Ok.ensures.entries ∙ insert_entry-new nat_eq c.self.inside.order c.args.filed.row.entry c.insert_reserved-key.result (unlisted c.args.filed.row.entry c.self.inside.order.entries others) in
    subst (AreRows c.insert_reserved-key.new.self) (sym grown) (pushed c.self.inside.rows c.insert_reserved-key.new.self c.insert_reserved-key.result c.args.filed c.requires.text c.insert_reserved-key.ensures.was_vacant c.insert_reserved-key.ensures.updates c.self.inside.order.entries c.self.invariant others).0

pub returns : goal.returns
returns c =
    let others = none_of c.self.inside.rows c.args.filed.row.entry c.self.inside.order.entries c.self.invariant (ap (λ (x : Rows). find (is_of_entry c.args.filed.row.entry) x.items) c.self.view_is ∙ c.requires.fresh) in
    let grown = c.in-Ok.ensures.entries ∙ insert_entry-new nat_eq c.self.inside.order c.args.filed.row.entry c.insert_reserved-key.result (unlisted c.args.filed.row.entry c.self.inside.order.entries others) in
    record { items = ap (rows_in c.insert_reserved-key.new.self) grown ∙ (pushed c.self.inside.rows c.insert_reserved-key.new.self c.insert_reserved-key.result c.args.filed c.requires.text c.insert_reserved-key.ensures.was_vacant c.insert_reserved-key.ensures.updates c.self.inside.order.entries c.self.invariant others).1 ∙ ap (λ (x : Rows). x.items ++ c.args.filed.row ∷ []) c.self.view_is }
