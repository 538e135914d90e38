use Rattle.shared_bench.proofs.open.Given as goal

-- the table that was just opened
abbrev pub ghosts-time : goal.ghosts-time
ghosts-time g a = record { table = a.opened }
