use Rattle.std.proofs.Common.{ap, ◌∙◌}
use Rattle.std.specs.Prelude.{find}
use Rattle.entry_changes.specs.Finding.{is_sent}
use Rattle.challenge_book.specs.Rows.{Rows}
use Rattle.challenge_book.specs.Keys.{is_asked}
use Rattle.challenge_book.proofs.Finding.{through, unnamed}
use Rattle.challenge_book.proofs.indexed.IndexedRows.of_serial.Goals as goal

pub returns-in-Some : goal.returns-in-Some
returns-in-Some c = record { row = c.get.ensures.row ∙ through (is_asked (c.args.agent, c.args.serial)) c.self.inside.rows.items c.in-Some.entry c.self.invariant.apart (c.in-Some.ensures.entry ∙ c.self.invariant.agents_are (c.args.agent, c.args.serial)) ∙ ap (λ (x : Rows). find (is_sent c.args.agent c.args.serial) x.items) c.self.view_is }

pub returns-in-None : goal.returns-in-None
returns-in-None c = record { row = unnamed (is_asked (c.args.agent, c.args.serial)) c.self.inside.rows.items (c.in-None.ensures.entry ∙ c.self.invariant.agents_are (c.args.agent, c.args.serial)) ∙ ap (λ (x : Rows). find (is_sent c.args.agent c.args.serial) x.items) c.self.view_is }
