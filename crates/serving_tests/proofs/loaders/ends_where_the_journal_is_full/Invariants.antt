use Rattle.serving_tests.proofs.loaders.ends_where_the_journal_is_full.Given as goal

-- the limits that are handed in
abbrev pub ghosts-name_run : goal.ghosts-name_run
ghosts-name_run g a = record { limits = a.limits }
