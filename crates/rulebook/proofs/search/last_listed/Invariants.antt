use Rattle.std.proofs.Common.{◌≡◌, take}
use Rattle.authority_model.specs.Lists.{find_last}
use Rattle.authority_model.specs.Rules.{matches_at}
use Rattle.rulebook.specs.Indexes.{rows_at}
use Rattle.rulebook.proofs.search.last_listed.Given as goal

-- the last matching rule is at one of the first `i` places
abbrev pub invariant-loop-i : goal.invariant-loop-i
invariant-loop-i l =
    find_last (λ (place, entry). matches_at l.label l.action l.category entry) (rows_at l.entries l.places)
    ≡ find_last (λ (place, entry). matches_at l.label l.action l.category entry) (rows_at l.entries (take l.i l.places))
