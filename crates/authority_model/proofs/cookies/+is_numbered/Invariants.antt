use Rattle.authority_model.proofs.cookies.+is_numbered.Given as goal

abbrev pub decreases-is_numbered : goal.decreases-is_numbered
decreases-is_numbered l = l.digits
