use Rattle.shared_authority_tests.proofs.tests.one_connection_collects_what_is_sent_to_another.Given as goal

-- the limits that are handed in
abbrev pub ghosts-name_collected : goal.ghosts-name_collected
ghosts-name_collected g a = record { limits = a.limits }
