use Rattle.shared_authority_tests.proofs.tests.a_full_journal_ends_the_lock.Given as goal

-- the limits that are handed in
abbrev pub ghosts-name_two_entries : goal.ghosts-name_two_entries
ghosts-name_two_entries g a = record { limits = a.limits }
