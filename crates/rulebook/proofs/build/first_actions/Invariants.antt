use Rattle.std.proofs.Common.{◌≡◌, take, bytes_eq, position}
use Rattle.authority_model.specs.Words.{Bytes}
use Rattle.rulebook.specs.Indexes.{at_text}
use Rattle.rulebook.proofs.build.first_actions.Given as goal

-- the first places among the first `i` actions
abbrev pub invariant-loop-i : goal.invariant-loop-i
invariant-loop-i l = (id : Bytes) → at_text l.places.entries id ≡ position (λ a. bytes_eq a.id id) (take l.i l.actions)
