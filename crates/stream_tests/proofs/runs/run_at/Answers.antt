-- A station in memory may go to another thread, and its links take any text.
use denote.Param.Send.{sendable}
use Rattle.std.proofs.Common.{ℕ, List, Some}
use Rattle.std.specs.Prelude.{⊤}
use Rattle.connection_serve.proofs.Promising.{serve_free}
use Rattle.polkit_daemon.proofs.Promised.{may_run_free}
use Rattle.stream_tests.proofs.Sends.{door_is_send, station_is_send}
use Rattle.stream_tests.proofs.runs.run_at.Goals as goal

pub polkitd-status-requires-send-N : goal.polkitd-status-requires-send-N
polkitd-status-requires-send-N g c κs within = search (station_is_send, sendable)

pub polkitd-status-requires-send-N-Door : goal.polkitd-status-requires-send-N-Door
polkitd-status-requires-send-N-Door g c κs within = search (door_is_send, sendable)

pub polkitd-status-requires-clause-may_serve : goal.polkitd-status-requires-clause-may_serve
polkitd-status-requires-clause-may_serve g c κs within = serve_free (λ (t : List ℕ). ⊤) (λ text. tt)

pub polkitd-status-requires-clause-may : goal.polkitd-status-requires-clause-may
polkitd-status-requires-clause-may g c κs within =
    may_run_free _ (Some c.in_ok-sink.sink.bytes.items) (Some (record { files = c.args.tree.now.files; directories = c.args.tree.now.directories })) _ (λ text. tt {0})
