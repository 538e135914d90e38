use Rattle.shared_bench.proofs.main.Given as goal

-- the limits that are handed in
abbrev pub ghosts-open : goal.ghosts-open
ghosts-open g a = record { limits = a.limits }
