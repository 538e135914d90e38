use Rattle.serving_tests.proofs.moments.name_limits.Given as goal

-- the table that was just opened
abbrev pub ghosts-has_moments : goal.ghosts-has_moments
ghosts-has_moments g a = record { table = a.opened }
