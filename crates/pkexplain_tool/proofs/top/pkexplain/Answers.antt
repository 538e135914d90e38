-- A rule is told as dead exactly where it is.
use Rattle.pkexplain_tool.proofs.Deadness.{dead_exactly}
use Rattle.pkexplain_tool.proofs.top.pkexplain.Goals as goal

pub returns-in-Some-clause-dead : goal.returns-in-Some-clause-dead
returns-in-Some-clause-dead g c = dead_exactly

pub returns-in-None-clause-dead : goal.returns-in-None-clause-dead
returns-in-None-clause-dead g c = dead_exactly
