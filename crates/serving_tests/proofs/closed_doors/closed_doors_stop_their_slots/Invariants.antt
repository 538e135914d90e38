use Rattle.serving_tests.proofs.closed_doors.closed_doors_stop_their_slots.Given as goal

-- the limits that are handed in
abbrev pub ghosts-name_limits : goal.ghosts-name_limits
ghosts-name_limits g a = record { limits = a.limits }
