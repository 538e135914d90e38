use Rattle.std.proofs.Common.{ℕ, List}
use Rattle.std.specs.Prelude.{⊤}
use Rattle.connection_serve.proofs.Promising.{serve_free}
use Rattle.polkitd.proofs.main.Goals as goal

pub run-code-requires-clause-may_serve : goal.run-code-requires-clause-may_serve
run-code-requires-clause-may_serve c κs within = λ bounds. serve_free (λ (t : List ℕ). ⊤) (λ text. tt)
