use Rattle.std.proofs.Common.{◌≡◌, ◌++◌, take, codes, string_bytes}
use Rattle.std.specs.List.{flat_map}
use Rattle.scenario_text.specs.Escapes.{row_text}
use Rattle.scenario_text.proofs.escape.push_grants.Given as goal

abbrev pub invariant-loop-row : goal.invariant-loop-row
invariant-loop-row l =
    string_bytes l.text ≡ string_bytes l.initial.text ++ flat_map (λ y. codes "," ++ row_text y) (take l.row-index l.others)
