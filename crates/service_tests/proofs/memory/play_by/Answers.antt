use denote.Param.Send.{sendable}
use Rattle.service_tests.proofs.Sends.{door_is_send, station_is_send}
use Rattle.std.proofs.Common.{ℕ, List}
use Rattle.std.specs.Prelude.{⊤}
use Rattle.connection_serve.proofs.Promising.{serve_free}
use Rattle.service_tests.proofs.memory.play_by.Goals as goal

pub serve_named-requires-send-N : goal.serve_named-requires-send-N
serve_named-requires-send-N g c κs within = search (station_is_send, sendable)

pub serve_named-requires-send-N-Door : goal.serve_named-requires-send-N-Door
serve_named-requires-send-N-Door g c κs within = search (door_is_send, sendable)

pub serve_named-requires-clause-may_serve : goal.serve_named-requires-clause-may_serve
serve_named-requires-clause-may_serve g c κs within = serve_free (λ (t : List ℕ). ⊤) (λ text. tt)
