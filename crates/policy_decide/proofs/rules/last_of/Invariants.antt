use Rattle.std.proofs.Common.{◌≡◌, take}
use Rattle.policy_decide.specs.Walks.{last_of}
use Rattle.policy_decide.proofs.rules.last_of.Given as goal

-- the last matching rule is among the first `i`
abbrev pub invariant-loop-i : goal.invariant-loop-i
invariant-loop-i l = last_of l.entries l.action l.category l.label ≡ last_of (take l.i l.entries) l.action l.category l.label
