use Rattle.std.proofs.Common.{◌≡◌}
use Rattle.policy_load.specs.Joins.{with_actions}
use Rattle.policy_load.specs.Kept.{joined_of}
use Rattle.policy_load.proofs.files.joining.Joining.with_actions.Given as goal

-- the actions so far, and those to come
abbrev pub invariant-loop-at : goal.invariant-loop-at
invariant-loop-at l = with_actions l.path l.at-iterator.count l.at-iterator.iter.rest.items (joined_of l.joining) ≡ with_actions l.path 0 l.initial.at-iterator.iter.rest.items (joined_of l.initial.joining)
