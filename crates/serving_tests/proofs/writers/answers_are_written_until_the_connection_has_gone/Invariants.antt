use Rattle.serving_tests.proofs.writers.answers_are_written_until_the_connection_has_gone.Given as goal

-- the limits that are handed in
abbrev pub ghosts-name_limits : goal.ghosts-name_limits
ghosts-name_limits g a = record { limits = a.limits }
