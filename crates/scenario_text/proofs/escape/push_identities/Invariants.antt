use Rattle.std.proofs.Common.{◌≡◌, ◌++◌, take, codes, string_bytes}
use Rattle.std.specs.List.{flat_map}
use Rattle.scenario_text.specs.Escapes.{identity_text}
use Rattle.scenario_text.proofs.escape.push_identities.Given as goal

abbrev pub invariant-loop-identity : goal.invariant-loop-identity
invariant-loop-identity l =
    string_bytes l.text ≡ string_bytes l.initial.text ++ flat_map (λ y. codes "," ++ identity_text y) (take l.identity-index l.others)
