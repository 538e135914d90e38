-- The challenges before the index have the answer where the entry opened them, and the others are as they were.
use Rattle.std.proofs.Common.{◌≡◌, ◌++◌, take, drop, map}
use Rattle.entry_changes.specs.Changes.{answered_by}
use Rattle.plain_lists.proofs.challenges.answer.Given as goal

abbrev pub invariant-loop-row : goal.invariant-loop-row
invariant-loop-row l = l.challenges ≡ map (answered_by l.entry l.identity) (take l.row-index l.fn.challenges) ++ drop l.row-index l.fn.challenges
