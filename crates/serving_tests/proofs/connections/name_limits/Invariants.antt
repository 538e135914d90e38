use Rattle.serving_tests.proofs.connections.name_limits.Given as goal

-- the table that was just opened
abbrev pub ghosts-serve_each : goal.ghosts-serve_each
ghosts-serve_each g a = record { table = a.opened }
