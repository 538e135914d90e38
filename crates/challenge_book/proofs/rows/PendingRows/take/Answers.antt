use Rattle.std.proofs.Common.{◌≡◌, sym, ap, ◌∙◌, subst, Option}
use Rattle.std.specs.Prelude.{find, string_bytes, IfSome}
use Rattle.std.specs.Option.{option_and_then, option_map}
use Rattle.authority_model.specs.Cookies.{cookie_text}
use Rattle.entry_changes.specs.Changes.{is_of_entry, without}
use Rattle.challenge_book.specs.declared.filed.Filed.{Filed}
use Rattle.challenge_book.specs.Rows.{Rows, IsFiled, row_of, rows_in, AreRows}
use Rattle.challenge_book.proofs.RowFinding.{row_at, held, found, at_key}
use Rattle.challenge_book.proofs.RowChanging.{taken, taken_none}
use Rattle.challenge_book.proofs.rows.PendingRows.take.Goals as goal

pub invariant_of-self : goal.invariant_of-self
invariant_of-self c = subst (AreRows c.try_remove.new.self) (sym c.shift_remove.ensures.entries) (taken c.self.inside.rows c.try_remove.new.self c.args.entry c.in-Some.key c.try_remove.ensures.updates c.self.inside.order.entries c.self.invariant (sym c.in-Some.ensures.value)).0

pub returns-in-Some-clause-row : goal.returns-in-Some-clause-row
returns-in-Some-clause-row c = ap (option_map row_of) c.try_remove.ensures.value ∙ ap (option_and_then (row_at c.self.inside.rows)) c.in-Some.ensures.value ∙ found c.self.inside.rows c.self.inside.order.entries c.args.entry c.self.invariant ∙ ap (λ (x : Rows). find (is_of_entry c.args.entry) x.items) c.self.view_is

pub returns-in-Some-clause-text : goal.returns-in-Some-clause-text
returns-in-Some-clause-text c =
    let h = held _ (IsFiled c.args.entry) (at_key c.self.inside.rows c.args.entry c.in-Some.key c.self.inside.order.entries c.self.invariant (sym c.in-Some.ensures.value)) in
    subst (λ (o : Option Filed). IfSome o (λ filed. string_bytes filed.cookie_text ≡ cookie_text filed.row.cookie)) (sym (c.try_remove.ensures.value ∙ h.1)) h.2.text

pub returns-in-Some-clause-items : goal.returns-in-Some-clause-items
returns-in-Some-clause-items c = ap (rows_in c.try_remove.new.self) c.shift_remove.ensures.entries ∙ (taken c.self.inside.rows c.try_remove.new.self c.args.entry c.in-Some.key c.try_remove.ensures.updates c.self.inside.order.entries c.self.invariant (sym c.in-Some.ensures.value)).1 ∙ ap (λ (x : Rows). without c.args.entry x.items) c.self.view_is

pub returns-in-None-clause-row : goal.returns-in-None-clause-row
returns-in-None-clause-row c = ap (option_and_then (row_at c.self.inside.rows)) c.in-None.ensures.value ∙ found c.self.inside.rows c.self.inside.order.entries c.args.entry c.self.invariant ∙ ap (λ (x : Rows). find (is_of_entry c.args.entry) x.items) c.self.view_is

pub returns-in-None-clause-items : goal.returns-in-None-clause-items
returns-in-None-clause-items c = ap (rows_in c.self.inside.rows) c.in-None.ensures.unchanged ∙ sym (taken_none c.self.inside.rows c.args.entry c.self.inside.order.entries c.self.invariant (sym c.in-None.ensures.value)) ∙ ap (λ (x : Rows). without c.args.entry x.items) c.self.view_is
