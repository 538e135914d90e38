-- The users so far.
use Rattle.std.proofs.Common.{List}
use Rattle.authority_model.specs.declared.journal.Item.{Item}
use Rattle.generated_run.specs.Run.{each_entered, connects}
use Rattle.generated_run.specs.Kept.{Has}
use Rattle.generated_run.proofs.run.Run.connect_users.Given as goal

abbrev pub invariant-loop-i : goal.invariant-loop-i
invariant-loop-i l = (past : List Item) → Has past l.fn.self → Has (each_entered connects l.i past) l.self
