use Rattle.std.proofs.Common.{◌≡◌, ℕ, ◌==◌, take, position}
use Rattle.rulebook.specs.WorldIndexes.{at_number}
use Rattle.rulebook.proofs.world_build.first_users.Given as goal

-- the first places among the first `i` rows
abbrev pub invariant-loop-i : goal.invariant-loop-i
invariant-loop-i l = (n : ℕ) → at_number l.places.entries n ≡ position (λ row. row.uid == n) (take l.i l.users)
