use Rattle.shared_authority_tests.proofs.tests.two_threads_submit_a_hundred_each.Given as goal

-- the limits that are handed in
abbrev pub ghosts-name_ample : goal.ghosts-name_ample
ghosts-name_ample g a = record { limits = a.limits }
