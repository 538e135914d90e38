use Rattle.serving_tests.proofs.idle_doors.name_limits.Given as goal

-- the table that was just opened
abbrev pub ghosts-end_beside_slot : goal.ghosts-end_beside_slot
ghosts-end_beside_slot g a = record { table = a.opened }
