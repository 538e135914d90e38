use Rattle.serving_tests.proofs.loaders.name_run.Given as goal

-- the table that was just opened
abbrev pub ghosts-run_loader : goal.ghosts-run_loader
ghosts-run_loader g a = record { table = a.opened }
