use Rattle.serving_tests.proofs.idle_doors.idle_slot_stops_once_the_lock_has_ended.Given as goal

-- the limits that are handed in
abbrev pub ghosts-name_limits : goal.ghosts-name_limits
ghosts-name_limits g a = record { limits = a.limits }
