use Rattle.std.proofs.Common.{◌≡◌, take}
use Rattle.std.specs.List.{flat_map}
use Rattle.authority_model.specs.Rules.{greatest}
use Rattle.policy_decide.specs.Walks.{group_places}
use Rattle.rulebook.proofs.implicit.greatest_of_groups.Given as goal

-- the deciding rule matches at one of the first `i` groups
abbrev pub invariant-loop-i : goal.invariant-loop-i
invariant-loop-i g l = greatest l.policy l.action l.category (flat_map (group_places (g.R.WorldRows.world l.world)) l.gids) ≡ greatest l.policy l.action l.category (flat_map (group_places (g.R.WorldRows.world l.world)) (take l.i l.gids))
