use Rattle.history_lock.proofs.locked.keep_cause.Given as goal

-- the cause that is kept is the one handed in
abbrev pub ghosts-end : goal.ghosts-end
ghosts-end g a = record { cause = a.cause }
