use Rattle.serving_tests.proofs.connections.connections_are_served_to_their_ends.Given as goal

-- the limits that are handed in
abbrev pub ghosts-name_limits : goal.ghosts-name_limits
ghosts-name_limits g a = record { limits = a.limits }
