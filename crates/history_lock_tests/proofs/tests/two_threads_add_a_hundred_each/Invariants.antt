use Rattle.history_lock_tests.proofs.tests.two_threads_add_a_hundred_each.Given as goal

-- the table that was just opened
abbrev pub ghosts-add_hundred : goal.ghosts-add_hundred
ghosts-add_hundred g a = record { table = a.opened }
