use Rattle.std.proofs.Common.{ℕ, List}
use Rattle.std.specs.Prelude.{⊤}
use Rattle.connection_serve.proofs.Promising.{serve_free}
use Rattle.stream_tests.proofs.runs.run_over.Goals as goal

pub polkitd-status-requires-clause-may_serve : goal.polkitd-status-requires-clause-may_serve
polkitd-status-requires-clause-may_serve g c κs within = serve_free (λ (t : List ℕ). ⊤) (λ text. tt)
