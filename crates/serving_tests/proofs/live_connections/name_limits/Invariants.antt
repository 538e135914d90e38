use Rattle.serving_tests.proofs.live_connections.name_limits.Given as goal

-- the table that was just opened
abbrev pub ghosts-is_so : goal.ghosts-is_so
ghosts-is_so g a = record { table = a.opened }
