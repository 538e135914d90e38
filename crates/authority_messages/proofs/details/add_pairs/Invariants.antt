use Rattle.std.proofs.Common.{◌≡◌, ◌++◌, take}
use Rattle.authority_messages.proofs.details.add_pairs.Given as goal

abbrev pub invariant-loop-one : goal.invariant-loop-one
invariant-loop-one l = l.details ≡ l.initial.details ++ take l.one-index l.pairs
