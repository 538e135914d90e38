use Rattle.std.proofs.Common.{◌≡◌, take, bytes_eq, position}
use Rattle.authority_model.specs.Words.{Bytes}
use Rattle.rulebook.specs.Indexes.{at_text}
use Rattle.rulebook.proofs.world_build.first_sessions.Given as goal

-- the first places among the first `i` sessions
abbrev pub invariant-loop-i : goal.invariant-loop-i
invariant-loop-i l = (id : Bytes) → at_text l.places.entries id ≡ position (λ s. bytes_eq s.id id) (take l.i l.sessions)
