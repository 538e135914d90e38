use Rattle.shared_authority_tests.proofs.waiting_tests.a_waiting_collector_is_woken.Given as goal

-- the limits that are handed in
abbrev pub ghosts-name_limits : goal.ghosts-name_limits
ghosts-name_limits g a = record { limits = a.limits }
