use Rattle.shared_authority_tests.proofs.ten_tests.name_limits.Given as goal

-- the table that was just opened
abbrev pub ghosts-ten_beside : goal.ghosts-ten_beside
ghosts-ten_beside g a = record { table = a.opened }
