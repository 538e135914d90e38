use Rattle.std.proofs.Common.{ℕ, List}
use Rattle.std.specs.Prelude.{⊤}
use Rattle.connection_serve.proofs.Promising.{serve_free}
use Rattle.polkitd_generated.proofs.main.Goals as goal

pub run-requires-clause-may_serve : goal.run-requires-clause-may_serve
run-requires-clause-may_serve c κs within = serve_free (λ (t : List ℕ). ⊤) (λ text. tt)
