use Rattle.serving_tests.proofs.closed_doors.name_limits.Given as goal

-- the table that was just opened
abbrev pub ghosts-stop_two_slots : goal.ghosts-stop_two_slots
ghosts-stop_two_slots g a = record { table = a.opened }
