use Rattle.std.proofs.Common.{◌≡◌, length}
use Rattle.authority_calls.specs.Arguments.{behind}
use Rattle.authority_calls.proofs.arguments.behind.Given as goal

abbrev pub invariant-loop-left : goal.invariant-loop-left
invariant-loop-left l = behind l.left l.parts ≡ behind l.depth l.initial.parts

abbrev pub decreases-loop-left : goal.decreases-loop-left
decreases-loop-left l = length l.parts
