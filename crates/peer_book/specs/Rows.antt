-- What is known of each connection, and which are live.
use Rattle.std.specs.Prelude.{◌≡◌, ℕ, ◌==◌, Bool, false, not, ◌&&◌, ◌||◌, List, Option, Some, None, option_map, option_and_then, nat_eq, if◌then◌else◌}
use Rattle.std.specs.Option.{option_map_or}
use Rattle.std.specs.List.{list_any}
use Rattle.std.specs.List.Sorted.{IsStrictlySortedBy}
use Rattle.std.specs.Map.{lookup}
use Rattle.std.specs.Ordering.{nat_cmp}
use Rattle.authority_model.specs.declared.event.Event.{Event}
use Rattle.authority_model.specs.declared.journal.Entry.{Entry}
use Rattle.entry_changes.specs.declared.peer.Peer.{Peer}
use Rattle.authority_model.specs.declared.process_id.ProcessId.{ProcessId}
use Rattle.authority_model.specs.declared.world.World.{World}
use Rattle.authority_model.specs.Lists.{or_else, when}
use Rattle.authority_model.specs.Peers.{uid_given, is_depart, call_in, process_named}
use Rattle.authority_model.specs.Worlds.{process_row}

-- Numbers, and how many more have room.
pub record Numbers : Type 0 where
  pub items : List ℕ
  pub room : ℕ

-- The rows of the connections, the live ones by rising number, and how many more have room.
pub record Rows : Type 0 where
  pub rows : List (ℕ × Peer)
  pub live : List ℕ
  pub room : ℕ

-- the row of a connection
abbrev pub row_in : List (ℕ × Peer) → ℕ → Option Peer
row_in rows c = lookup (nat_eq c) rows

-- whether a row is that of a live connection
abbrev pub is_live_row : Option Peer → Bool
is_live_row row = option_map_or (λ r. not r.departed) row false

-- The numbers are those of the live connections, in rising order.
pub record IsLiveOf (rows : List (ℕ × Peer)) (live : List ℕ) : Type 0 where
  pub rising : IsStrictlySortedBy nat_cmp live
  pub has : (c : ℕ) → list_any (nat_eq c) live ≡ is_live_row (row_in rows c)

-- whether a connection with this row may announce a process in this world
abbrev pub may_announce : World → Peer → ProcessId → Bool
may_announce world row p = not row.departed && option_map_or (λ q. (row.uid == q.uid) || (row.uid == 0)) (process_row world p.pid p.start) false

-- the process that an event of a connection with this row announces, where that is accepted
abbrev pub accepted : World → Peer → Event → Option ProcessId
accepted world row event = option_and_then (λ p. when (may_announce world row p) p) (option_and_then process_named (call_in event))

-- the row of a connection after its own event, which connects it, or ends it, or announces a process
abbrev pub row_after : World → Option Peer → Event → Option Peer
row_after world None event = option_map (λ uid. record { uid = uid; departed = false; announced = None }) (uid_given event)
row_after world (Some row) event = Some (record {
  uid = row.uid;
  departed = row.departed || is_depart event;
  announced = or_else (accepted world row event) row.announced;
})

-- the caller's row is the one after the entry, and each other row is as it was
abbrev pub CarriesRows : Entry → World → List (ℕ × Peer) → List (ℕ × Peer) → Type 0
CarriesRows entry world old new = (c : ℕ) → row_in new c ≡ (if entry.caller == c then row_after world (row_in old c) entry.event else row_in old c)
