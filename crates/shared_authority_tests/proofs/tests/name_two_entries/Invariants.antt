use Rattle.shared_authority_tests.proofs.tests.name_two_entries.Given as goal

-- the table that was just opened
abbrev pub ghosts-fill_two_entries : goal.ghosts-fill_two_entries
ghosts-fill_two_entries g a = record { table = a.opened }
