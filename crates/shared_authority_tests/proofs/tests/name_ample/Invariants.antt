use Rattle.shared_authority_tests.proofs.tests.name_ample.Given as goal

-- the table that was just opened
abbrev pub ghosts-submit_beside : goal.ghosts-submit_beside
ghosts-submit_beside g a = record { table = a.opened }
