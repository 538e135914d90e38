use Rattle.serving_tests.proofs.live_connections.a_connection_looks_at_the_process_of_its_check.Given as goal

-- the limits that are handed in
abbrev pub ghosts-name_limits : goal.ghosts-name_limits
ghosts-name_limits g a = record { limits = a.limits }
