use Rattle.shared_authority_tests.proofs.ten_tests.ten_threads_submit_as_one_history.Given as goal

-- the limits that are handed in
abbrev pub ghosts-name_limits : goal.ghosts-name_limits
ghosts-name_limits g a = record { limits = a.limits }
