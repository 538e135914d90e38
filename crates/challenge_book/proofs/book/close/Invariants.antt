use Rattle.std.proofs.Common.{◌≡◌, drop}
use Rattle.entry_changes.specs.Changes.{without_all}
use Rattle.challenge_book.proofs.book.close.Given as goal

-- taking out those that are left to take out leaves what taking all out does
abbrev pub invariant-loop-entry : goal.invariant-loop-entry
invariant-loop-entry l = record { closed : without_all (drop l.entry-index l.entries) l.rows.items ≡ without_all l.entries l.fn.rows.items }
