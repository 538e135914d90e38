use Rattle.std.proofs.Common.{◌≡◌, ◌++◌, map}
use Rattle.action_drafts.specs.Finished.{finished}
use Rattle.action_drafts.proofs.finished.all_finished.Given as goal

abbrev pub invariant-loop-draft : goal.invariant-loop-draft
invariant-loop-draft l = l.actions ++ map (finished l.origin) l.draft-iterator.rest.items ≡ map (finished l.origin) l.initial.draft-iterator.rest.items
