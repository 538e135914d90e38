use Rattle.history_lock_tests.proofs.tests.tells_all_one_cause.Given as goal

-- the table that was just opened
abbrev pub ghosts-tell_all_one_cause : goal.ghosts-tell_all_one_cause
ghosts-tell_all_one_cause g a = record { table = a.opened }
