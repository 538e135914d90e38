use Rattle.history_lock_tests.proofs.tests.makes_each_pass_once.Given as goal

-- the table that was just opened
abbrev pub ghosts-make_each_pass : goal.ghosts-make_each_pass
ghosts-make_each_pass g a = record { table = a.opened }
