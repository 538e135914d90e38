-- The users so far.
use Rattle.std.proofs.Common.{List}
use Rattle.authority_model.specs.declared.journal.Item.{Item}
use Rattle.generated_run.specs.Run.{each_entered, registers}
use Rattle.generated_run.specs.Kept.{Has}
use Rattle.generated_run.proofs.run.Run.register_agents.Given as goal

abbrev pub invariant-loop-i : goal.invariant-loop-i
invariant-loop-i l = (past : List Item) → Has past l.fn.self → Has (each_entered registers l.i past) l.self
