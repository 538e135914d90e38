use Rattle.std.proofs.Common.{ℕ, List}
use Rattle.std.specs.Prelude.{⊤}
use Rattle.connection_serve.proofs.Promising.{serve_free}
use Rattle.serving_tests.proofs.closed_doors.serve_two.Goals as goal

pub serve_slots-requires-clause-may : goal.serve_slots-requires-clause-may
serve_slots-requires-clause-may g c κs within = serve_free (λ (t : List ℕ). ⊤) (λ text. tt)
