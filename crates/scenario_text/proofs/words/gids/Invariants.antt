use Rattle.std.proofs.Common.{◌≡◌, map, drop}
use Rattle.scenario_text.specs.Words.{number_32_in, each_in}
use Rattle.scenario_text.proofs.Reading.{onto}
use Rattle.scenario_text.proofs.words.gids.Given as goal

abbrev pub invariant-loop-item : goal.invariant-loop-item
invariant-loop-item l =
    each_in number_32_in (map (λ item. item.now) l.items) ≡ onto l.gids (each_in number_32_in (map (λ item. item.now) (drop l.item-index l.items)))
