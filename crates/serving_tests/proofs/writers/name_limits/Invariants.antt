use Rattle.serving_tests.proofs.writers.name_limits.Given as goal

-- the table that was just opened
abbrev pub ghosts-write_each : goal.ghosts-write_each
ghosts-write_each g a = record { table = a.opened }
