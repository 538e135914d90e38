use Rattle.std.proofs.Common.{ap, ◌∙◌, length}
use Rattle.challenge_book.specs.Rows.{Rows}
use Rattle.challenge_book.proofs.RowFinding.{counted}
use Rattle.challenge_book.proofs.rows.PendingRows.len.Goals as goal

pub returns : goal.returns
returns c = record { length = c.len.ensures.len ∙ counted c.self.inside.rows c.self.inside.order.entries c.self.invariant ∙ ap (λ (x : Rows). length x.items) c.self.view_is }
