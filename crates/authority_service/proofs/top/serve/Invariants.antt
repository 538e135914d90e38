use Rattle.authority_service.proofs.top.serve.Given as goal

-- the limits of the plan
abbrev pub ghosts-run : goal.ghosts-run
ghosts-run g a = record { limits = a.self.now.plan.now.limits }
