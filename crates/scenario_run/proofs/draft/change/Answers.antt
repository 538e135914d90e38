use Rattle.scenario_run.proofs.draft.change.Goals as goal

pub returns-in-Group-clause-err : goal.returns-in-Group-clause-err
returns-in-Group-clause-err c = rw c.in-Group.is c.put_group.ensures.err
