-- Who is connected, and which process a connection announced.
use Rattle.std.specs.Prelude.{ℕ, ◌==◌, Bool, true, false, not, ◌&&◌, ◌||◌, if◌then◌else◌, List, [], ◌∷◌, Option, Some, None, is_some, option_and_then, filter, nat_lt}
use Rattle.std.specs.Option.{option_map_or}
use Rattle.authority_model.specs.declared.event.Event.{Event}
use Rattle.authority_model.specs.declared.event.Event.TheVariants.{Connect, Call as Called, Depart}
use Rattle.authority_model.specs.declared.event.Call.{Call}
use Rattle.authority_model.specs.declared.process_id.ProcessId.{ProcessId}
use Rattle.authority_model.specs.Lists.{or_else, when}
use Rattle.authority_model.specs.Worlds.{process_row}
use Rattle.authority_model.specs.Items.{Item, world_of}

-- the uid of a Connect
abbrev pub uid_given : Event → Option ℕ
uid_given (Connect uid) = Some uid
uid_given _ = None

-- whether an event is a Depart
abbrev pub is_depart : Event → Bool
is_depart Depart = true
is_depart _ = false

-- the call in an event
abbrev pub call_in : Event → Option Call
call_in (Called serial quiet call) = Some call
call_in _ = None

-- whether an item is by a connection
abbrev pub is_by : ℕ → Item → Bool
is_by c i = i.entry.caller == c

-- the uid with which an item connects a connection
abbrev pub connects : ℕ → Item → Option ℕ
connects c i = if is_by c i then uid_given i.entry.event else None

-- whether an item is the Depart of a connection
abbrev pub departs : ℕ → Item → Bool
departs c i = is_by c i && is_depart i.entry.event

-- the uid of a connection: that of its first Connect
abbrev pub uid_of : List Item → ℕ → Option ℕ
uid_of [] c = None
uid_of (i ∷ past) c = or_else (uid_of past c) (connects c i)

-- whether a connection departed after it had connected
abbrev pub departed : List Item → ℕ → Bool
departed [] c = false
departed (i ∷ past) c = departed past c || (is_some (uid_of past c) && departs c i)

-- whether a connection is live: it connected, and has not departed since
abbrev pub live : List Item → ℕ → Bool
live past c = is_some (uid_of past c) && not (departed past c)

-- whether a connection's uid is this one, or 0
abbrev pub may_for : List Item → ℕ → ℕ → Bool
may_for past c uid = option_map_or (λ own. (own == uid) || (own == 0)) (uid_of past c) false

-- whether a connection's uid is 0
abbrev pub is_root : List Item → ℕ → Bool
is_root past c = option_map_or (λ own. own == 0) (uid_of past c) false

-- numbers in rising order, with one more; one that stands already is not repeated
abbrev pub insert_rising : ℕ → List ℕ → List ℕ
insert_rising n [] = n ∷ []
insert_rising n (m ∷ ms) = if nat_lt n m then n ∷ m ∷ ms else (if n == m then m ∷ ms else m ∷ insert_rising n ms)

-- who ever connected, by rising number
abbrev pub connected : List Item → List ℕ
connected [] = []
connected (i ∷ past) = if is_some (uid_given i.entry.event) then insert_rising i.entry.caller (connected past) else connected past

-- the live connections, by rising number
abbrev pub live_connections : List Item → List ℕ
live_connections past = filter (live past) (connected past)

-- whether a connection may announce a process: it is live, the world lists the process, and the process is its user's or it is uid 0
abbrev pub accepts_announce : List Item → ℕ → ℕ → ℕ → Bool
accepts_announce past c pid start = live past c && option_map_or (λ p. may_for past c p.uid) (process_row (world_of past) pid start) false

-- the process that a call announces
abbrev pub process_named : Call → Option ProcessId
process_named (Call.Announce pid start) = Some (record { pid = pid; start = start })
process_named _ = None

-- the process that an item of a connection announces, where that is accepted
abbrev pub announces : List Item → ℕ → Item → Option ProcessId
announces past c i = option_and_then (λ p. when (is_by c i && accepts_announce past c p.pid p.start) p) (option_and_then process_named (call_in i.entry.event))

-- the last accepted announcement of a connection
abbrev pub last_announced : List Item → ℕ → Option ProcessId
last_announced [] c = None
last_announced (i ∷ past) c = or_else (announces past c i) (last_announced past c)

-- the process that a live connection announced
abbrev pub announced : List Item → ℕ → Option ProcessId
announced past c = if live past c then last_announced past c else None
