use Rattle.history_lock_tests.proofs.tests.calls_what_is_ready_alone.Given as goal

-- the table that was just opened
abbrev pub ghosts-call_what_is_ready : goal.ghosts-call_what_is_ready
ghosts-call_what_is_ready g a = record { table = a.opened }
