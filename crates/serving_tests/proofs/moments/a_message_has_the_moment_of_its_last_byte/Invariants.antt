use Rattle.serving_tests.proofs.moments.a_message_has_the_moment_of_its_last_byte.Given as goal

-- the limits that are handed in
abbrev pub ghosts-name_limits : goal.ghosts-name_limits
ghosts-name_limits g a = record { limits = a.limits }
