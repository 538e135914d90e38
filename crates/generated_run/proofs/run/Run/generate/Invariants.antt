-- The checks so far.
use Rattle.std.specs.Prelude.{[]}
use Rattle.generated_run.specs.Run.{generated}
use Rattle.generated_run.specs.Kept.{Has}
use Rattle.generated_run.proofs.run.Run.generate.Given as goal

abbrev pub invariant-loop-k : goal.invariant-loop-k
invariant-loop-k l = Has [] l.fn.self → Has (generated l.k) l.self
