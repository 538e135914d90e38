-- What an entry changes in what is known of connections, and among the live ones.
use Rattle.std.specs.Prelude.{ℕ, ◌==◌, Bool, false, not, ◌&&◌, ◌||◌, List, Option, Some, None, option_map, option_and_then, filter, if◌then◌else◌}
use Rattle.std.specs.Option.{option_map_or}
use Rattle.authority_model.specs.declared.event.Event.{Event}
use Rattle.entry_changes.specs.declared.peer.Peer.{Peer}
use Rattle.authority_model.specs.declared.process_id.ProcessId.{ProcessId}
use Rattle.authority_model.specs.declared.world.World.{World}
use Rattle.authority_model.specs.Lists.{or_else, when}
use Rattle.authority_model.specs.Peers.{uid_given, is_depart, call_in, insert_rising, process_named}
use Rattle.authority_model.specs.Worlds.{process_row}

-- whether a connection of which this is known may announce a process in this world
abbrev pub may_announce : World → Peer → ProcessId → Bool
may_announce world row p = not row.departed && option_map_or (λ q. (row.uid == q.uid) || (row.uid == 0)) (process_row world p.pid p.start) false

-- the process that an event of such a connection announces, where that is accepted
abbrev pub accepted : World → Peer → Event → Option ProcessId
accepted world row event = option_and_then (λ p. when (may_announce world row p) p) (option_and_then process_named (call_in event))

-- what is known of a connection after its own event, which connects it, or ends it, or announces a process
abbrev pub row_after : World → Option Peer → Event → Option Peer
row_after world None event = option_map (λ uid. record { uid = uid; departed = false; announced = None }) (uid_given event)
row_after world (Some row) event = Some (record {
  uid = row.uid;
  departed = row.departed || is_depart event;
  announced = or_else (accepted world row event) row.announced;
})

-- what is known of a connection after an event of a caller, with the caller's own row then
abbrev pub known_by : ℕ → Option Peer → ℕ → Option Peer → Option Peer
known_by caller next c row = if caller == c then next else row

-- the live connections, by rising number, after an event of a caller of which this is known then
abbrev pub live_after : ℕ → Option Peer → List ℕ → List ℕ
live_after caller None live = live
live_after caller (Some row) live = if row.departed then filter (λ n. not (n == caller)) live else insert_rising caller live
