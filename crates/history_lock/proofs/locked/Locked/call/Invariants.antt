use Rattle.history_lock.proofs.locked.Locked.call.Given as goal

-- the history that is written is the machine's
abbrev pub ghosts-append : goal.ghosts-append
ghosts-append g a = record { written = g.M.Machine.entries a.machine.now }
