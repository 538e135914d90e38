use Rattle.std.proofs.Common.{sym, ap, ◌∙◌}
use Rattle.std.specs.declared.borrow.CowSlice.TheVariants.{Borrowed}
use Rattle.entry_changes.specs.Finding.{with_cookie}
use Rattle.challenge_book.specs.Rows.{Rows}
use Rattle.challenge_book.specs.Keys.{KeyText, has_cookie}
use Rattle.challenge_book.proofs.Finding.{through, unnamed}
use Rattle.challenge_book.proofs.indexed.IndexedRows.of_cookie.Goals as goal

pub returns-in-Some : goal.returns-in-Some
returns-in-Some c =
    let k : KeyText = Borrowed c.args.cookie in
    record { row = c.get.ensures.row ∙ through (has_cookie k) c.self.inside.rows.items c.in-Some.entry c.self.invariant.apart (c.in-Some.ensures.entry k (sym c.bytes.ensures.bytes) ∙ c.self.invariant.cookies_are k) ∙ ap (λ (x : Rows). with_cookie c.args.cookie.now x.items) c.self.view_is }

pub returns-in-None : goal.returns-in-None
returns-in-None c =
    let k : KeyText = Borrowed c.args.cookie in
    record { row = unnamed (has_cookie k) c.self.inside.rows.items (c.in-None.ensures.entry k (sym c.bytes.ensures.bytes) ∙ c.self.invariant.cookies_are k) ∙ ap (λ (x : Rows). with_cookie c.args.cookie.now x.items) c.self.view_is }
