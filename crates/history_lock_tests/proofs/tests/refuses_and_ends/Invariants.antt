use Rattle.history_lock_tests.proofs.tests.refuses_and_ends.Given as goal

-- the table that was just opened
abbrev pub ghosts-refuse_and_end : goal.ghosts-refuse_and_end
ghosts-refuse_and_end g a = record { table = a.opened }
