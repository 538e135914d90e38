use Rattle.std.proofs.Common.{◌≡◌, ◌++◌, take, codes}
use Rattle.std.specs.List.{flat_map}
use Rattle.scenario_run.proofs.texts.owners.Given as goal

abbrev pub invariant-loop-identity : goal.invariant-loop-identity
invariant-loop-identity l = l.joined.items ≡ l.initial.joined.items ++ flat_map (λ y. codes " " ++ y) (take l.identity-index l.others)
