use Rattle.std.proofs.Common.{ℕ, List}
use Rattle.std.specs.Prelude.{⊤}
use Rattle.connection_serve.proofs.Promising.{serve_free}
use Rattle.service_tests.proofs.crossing.serve_named.Goals as goal

pub serve-status-requires-clause-may_serve : goal.serve-status-requires-clause-may_serve
serve-status-requires-clause-may_serve g c κs within = serve_free (λ (t : List ℕ). ⊤) (λ text. tt)
