use Rattle.std.proofs.Common.{◌≡◌}
use Rattle.policy_load.specs.Joins.{with_findings, nothing_joined}
use Rattle.policy_load.specs.Kept.{joined_of}
use Rattle.policy_load.proofs.files.joining.join.Given as goal

-- what was found so far, and what is to come
abbrev pub invariant-loop-finding : goal.invariant-loop-finding
invariant-loop-finding l = with_findings l.finding-iterator.rest.items (joined_of l.joining) ≡ with_findings l.initial.finding-iterator.rest.items nothing_joined
