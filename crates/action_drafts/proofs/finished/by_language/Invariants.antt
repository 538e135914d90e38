use Rattle.std.proofs.Common.{◌≡◌, ◌++◌}
use Rattle.action_drafts.specs.Finished.{by_language}
use Rattle.action_drafts.proofs.finished.by_language.Given as goal

abbrev pub invariant-loop-pair : goal.invariant-loop-pair
invariant-loop-pair l = l.list ++ by_language l.pair-iterator.rest.items ≡ by_language l.initial.pair-iterator.rest.items
