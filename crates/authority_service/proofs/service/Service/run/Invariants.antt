use Rattle.authority_service.proofs.service.Service.run.Given as goal

-- the table that was just opened
abbrev pub ghosts-run_tabled : goal.ghosts-run_tabled
ghosts-run_tabled g a = record { table = a.opened }
