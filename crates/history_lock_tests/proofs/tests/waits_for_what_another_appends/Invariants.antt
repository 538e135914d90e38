use Rattle.history_lock_tests.proofs.tests.waits_for_what_another_appends.Given as goal

-- the table that was just opened
abbrev pub ghosts-wait_for_another : goal.ghosts-wait_for_another
ghosts-wait_for_another g a = record { table = a.opened }
