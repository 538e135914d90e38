use Rattle.std.proofs.Common.{ap, ◌∙◌}
use Rattle.std.specs.Prelude.{find}
use Rattle.std.specs.Option.{option_and_then, option_map}
use Rattle.entry_changes.specs.Changes.{is_of_entry}
use Rattle.challenge_book.specs.Rows.{Rows, row_of}
use Rattle.challenge_book.proofs.RowFinding.{row_at, found}
use Rattle.challenge_book.proofs.rows.PendingRows.get.Goals as goal

pub returns-in-Some : goal.returns-in-Some
returns-in-Some c = record { row = c.row_in.ensures.row ∙ ap (option_map row_of) c.get-in-Some.ensures ∙ ap (option_and_then (row_at c.self.inside.rows)) c.in-Some.ensures.value ∙ found c.self.inside.rows c.self.inside.order.entries c.args.entry c.self.invariant ∙ ap (λ (x : Rows). find (is_of_entry c.args.entry) x.items) c.self.view_is }

pub returns-in-None : goal.returns-in-None
returns-in-None c = record { row = ap (option_and_then (row_at c.self.inside.rows)) c.in-None.ensures.value ∙ found c.self.inside.rows c.self.inside.order.entries c.args.entry c.self.invariant ∙ ap (λ (x : Rows). find (is_of_entry c.args.entry) x.items) c.self.view_is }
