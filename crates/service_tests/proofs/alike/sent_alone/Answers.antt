-- A sink in memory takes any text.
use denote.Param.Send.{sendable}
use Rattle.std.proofs.Common.{Some}
use Rattle.polkit_daemon.proofs.Promised.{may_run_free}
use Rattle.service_tests.proofs.Sends.{door_is_send, station_is_send}
use Rattle.service_tests.proofs.alike.sent_alone.Goals as goal

pub polkitd-requires-clause-may : goal.polkitd-requires-clause-may
polkitd-requires-clause-may g c κs within =
    may_run_free _ (Some c.in_ok-output.output.bytes.items) (Some (record { files = c.in_ok-tree.tree.files; directories = c.in_ok-tree.tree.directories })) _ (λ text. tt {0})

pub polkitd-requires-send-N : goal.polkitd-requires-send-N
polkitd-requires-send-N g c κs within = search (station_is_send, sendable)

pub polkitd-requires-send-N-Door : goal.polkitd-requires-send-N-Door
polkitd-requires-send-N-Door g c κs within = search (door_is_send, sendable)
