use Rattle.std.proofs.Common.{length}
use Rattle.policy_load.proofs.beside.+find_beside+fn-find_beside-join+arg2+fn-find_beside-join+arg3.Given as goal

abbrev pub decreases-join+arg2 : goal.decreases-join+arg2
decreases-join+arg2 g l = length l.front.now

abbrev pub decreases-join+arg3 : goal.decreases-join+arg3
decreases-join+arg3 g l = length l.back.now

abbrev pub decreases-find_beside : goal.decreases-find_beside
decreases-find_beside g l = length l.files.now
