use Rattle.serving_tests.proofs.loaders.loads_once_for_each_that_is_wanted.Given as goal

-- the limits that are handed in
abbrev pub ghosts-name_run : goal.ghosts-name_run
ghosts-name_run g a = record { limits = a.limits }
