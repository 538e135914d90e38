use Rattle.std.proofs.Common.{ℕ, refl, sym, ap, ◌∙◌}
use Rattle.std.specs.declared.borrow.CowSlice.TheVariants.{Borrowed}
use Rattle.entry_changes.specs.Finding.{named}
use Rattle.challenge_book.specs.Rows.{Rows}
use Rattle.challenge_book.specs.Keys.{KeyText, is_named}
use Rattle.challenge_book.proofs.Finding.{through, unnamed}
use Rattle.challenge_book.proofs.Keying.{named_is}
use Rattle.challenge_book.proofs.indexed.IndexedRows.of_cancel.Goals as goal

pub returns-in-Some : goal.returns-in-Some
returns-in-Some c =
    let k : ℕ × KeyText = (c.args.asker, Borrowed c.args.id) in
    record { row = c.get.ensures.row ∙ through (is_named k) c.self.inside.rows.items c.in-Some.entry c.self.invariant.apart (c.in-Some.ensures.entry k refl (sym c.bytes.ensures.bytes) ∙ c.self.invariant.ids_are k) ∙ named_is k c.self.inside.rows.items ∙ ap (λ (x : Rows). named c.args.asker c.args.id.now x.items) c.self.view_is }

pub returns-in-None : goal.returns-in-None
returns-in-None c =
    let k : ℕ × KeyText = (c.args.asker, Borrowed c.args.id) in
    record { row = unnamed (is_named k) c.self.inside.rows.items (c.in-None.ensures.entry k refl (sym c.bytes.ensures.bytes) ∙ c.self.invariant.ids_are k) ∙ named_is k c.self.inside.rows.items ∙ ap (λ (x : Rows). named c.args.asker c.args.id.now x.items) c.self.view_is }
