use Rattle.std.proofs.Common.{◌≡◌, ◌++◌, take, string_bytes}
use Rattle.scenario_text.specs.Escapes.{pairs_text}
use Rattle.scenario_text.proofs.escape.push_pairs.Given as goal

abbrev pub invariant-loop-pair : goal.invariant-loop-pair
invariant-loop-pair l = string_bytes l.text ≡ string_bytes l.fn.text ++ pairs_text (take l.pair-index l.pairs)
