use Rattle.shared_authority_tests.proofs.tests.name_collected.Given as goal

-- the table that was just opened
abbrev pub ghosts-collect_until_gone : goal.ghosts-collect_until_gone
ghosts-collect_until_gone g a = record { table = a.opened }
