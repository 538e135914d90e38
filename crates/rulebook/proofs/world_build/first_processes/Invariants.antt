use Rattle.std.proofs.Common.{◌≡◌, ℕ, ◌==◌, ◌&&◌, take, position}
use Rattle.rulebook.specs.WorldIndexes.{at_process}
use Rattle.rulebook.proofs.world_build.first_processes.Given as goal

-- the first places among the first `i` processes
abbrev pub invariant-loop-i : goal.invariant-loop-i
invariant-loop-i l = (pid start : ℕ) → at_process l.places.entries pid start ≡ position (λ p. (p.pid == pid) && (p.start == start)) (take l.i l.processes)
