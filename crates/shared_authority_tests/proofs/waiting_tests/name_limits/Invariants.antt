use Rattle.shared_authority_tests.proofs.waiting_tests.name_limits.Given as goal

-- the table that was just opened
abbrev pub ghosts-wait_beside : goal.ghosts-wait_beside
ghosts-wait_beside g a = record { table = a.opened }
