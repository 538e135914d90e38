-- The challenges that the entries before the index opened were taken out.
use Rattle.std.proofs.Common.{◌≡◌, drop}
use Rattle.entry_changes.specs.Changes.{without_all}
use Rattle.plain_lists.proofs.challenges.close_all.Given as goal

abbrev pub invariant-loop-entry : goal.invariant-loop-entry
invariant-loop-entry l = without_all (drop l.entry-index l.entries) l.challenges.items ≡ without_all l.entries l.initial.challenges.items
