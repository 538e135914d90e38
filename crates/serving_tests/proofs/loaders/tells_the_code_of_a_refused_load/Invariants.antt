use Rattle.serving_tests.proofs.loaders.tells_the_code_of_a_refused_load.Given as goal

-- the limits that are handed in
abbrev pub ghosts-name_run : goal.ghosts-name_run
ghosts-name_run g a = record { limits = a.limits }
