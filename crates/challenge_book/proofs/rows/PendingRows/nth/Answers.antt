use Rattle.std.proofs.Common.{ℕ, ap, ◌∙◌}
use Rattle.std.specs.Prelude.{slice_get}
use Rattle.std.specs.Option.{option_and_then, option_map}
use Rattle.challenge_book.specs.Rows.{Rows, row_of}
use Rattle.challenge_book.proofs.RowFinding.{row_at, nth_row}
use Rattle.challenge_book.proofs.rows.PendingRows.nth.Goals as goal

pub returns-in-Some : goal.returns-in-Some
returns-in-Some c = record { row = c.row_in.ensures.row ∙ ap (option_map row_of) c.get.ensures ∙ ap (option_and_then (λ (e : ℕ × ℕ). row_at c.self.inside.rows e.1)) c.in-Some.ensures.entry ∙ nth_row c.self.inside.rows c.self.inside.order.entries c.args.i c.self.invariant ∙ ap (λ (x : Rows). slice_get x.items c.args.i) c.self.view_is }

pub returns-in-None : goal.returns-in-None
returns-in-None c = record { row = ap (option_and_then (λ (e : ℕ × ℕ). row_at c.self.inside.rows e.1)) c.in-None.ensures.entry ∙ nth_row c.self.inside.rows c.self.inside.order.entries c.args.i c.self.invariant ∙ ap (λ (x : Rows). slice_get x.items c.args.i) c.self.view_is }
