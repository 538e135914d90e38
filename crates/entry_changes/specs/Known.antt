-- What is known of a connection that ever connected.
use Rattle.std.specs.Prelude.{ℕ, if◌then◌else◌, List, Option, None, option_map}
use Rattle.authority_model.specs.declared.journal.Item.{Item}
use Rattle.authority_model.specs.declared.process_id.ProcessId.{ProcessId}
use Rattle.authority_model.specs.Peers.{uid_of, departed, last_announced}
use Rattle.entry_changes.specs.declared.peer.Peer.{Peer}

-- what is known of a connection that ever connected; what it announced last stands there also behind its departure
abbrev pub known : List Item → ℕ → Option Peer
known past c = option_map (λ uid. record { uid = uid; departed = departed past c; announced = last_announced past c }) (uid_of past c)

-- the process that a connection with this row announced last, unless it has departed
abbrev pub live_announced : Peer → Option ProcessId
live_announced row = if row.departed then None else row.announced
