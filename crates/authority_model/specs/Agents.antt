-- The agents in force: which registration of an authentication agent stands.
use Rattle.std.specs.Prelude.{ℕ, Bool, false, not, ◌&&◌, ◌||◌, List, [], ◌∷◌, ◌++◌, Option, None, is_some, option_and_then, option_to_list, bytes_eq, find, filter}
use Rattle.std.specs.Option.{option_map_or}
use Rattle.authority_model.specs.declared.event.Call.{Call}
use Rattle.authority_model.specs.declared.pending.Agent.{Agent}
use Rattle.authority_model.specs.declared.key.Key.{Key}
use Rattle.authority_model.specs.Lists.{or_else, when}
use Rattle.authority_model.specs.Words.{Bytes}
use Rattle.authority_model.specs.Keys.{same_key}
use Rattle.authority_model.specs.Worlds.{session_row, lists_key}
use Rattle.authority_model.specs.Facts.{Facts}
use Rattle.authority_model.specs.Items.{Item, world_of}
use Rattle.authority_model.specs.Peers.{live, may_for, departs, is_by, call_in}
use Rattle.authority_model.specs.Subjects.{facts, key_of}

-- whether a call is an Unregister of this path, whose subject has this key
abbrev pub unregister_of : List Item → Key → Bytes → Call → Bool
unregister_of past key path (Call.Unregister subject path') = bytes_eq path' path && option_map_or (same_key key) (key_of past subject) false
unregister_of past key path _ = false

-- whether an item is such an Unregister by this connection
abbrev pub unregisters : List Item → ℕ → Key → Bytes → Item → Bool
unregisters past c key path i = is_by c i && option_map_or (unregister_of past key path) (call_in i.entry.event) false

-- whether an item is a load whose world does not list the key
abbrev pub unlists : Key → Item → Bool
unlists key i = option_map_or (λ l. not (lists_key l.world key)) i.loaded false

-- whether an item ends a registration: its connection departs or unregisters it, or a load does not list its key
abbrev pub ends : List Item → Agent → Item → Bool
ends past a i = departs a.caller i || unregisters past a.caller a.key a.path i || unlists a.key i

-- the registration of a key among these
abbrev pub agent_of : Key → List Agent → Option Agent
agent_of key agents = find (λ a. same_key a.key key) agents

-- The registration that a connection's item makes for a subject of these facts, where these are in force: the connection is live and may speak for the subject, and no other agent is registered for it.
abbrev pub registered_for : List Item → List Agent → Item → Bytes → Bytes → Facts → Option Agent
registered_for past agents i locale path f = when (live past i.entry.caller && may_for past i.entry.caller f.uid && not (is_some (agent_of f.key agents))) (record { caller = i.entry.caller; key = f.key; path = path; locale = locale })

-- the registration that a call makes
abbrev pub registered : List Item → List Agent → Item → Call → Option Agent
registered past agents i (Call.Register subject locale path) = option_and_then (registered_for past agents i locale path) (facts past subject)
registered past agents i _ = None

-- the registration that an item makes
abbrev pub registers : List Item → List Agent → Item → Option Agent
registers past agents i = option_and_then (registered past agents i) (call_in i.entry.event)

-- The registrations in force, the oldest first: those from before that the last item does not end, and the one that it makes.
abbrev pub in_force : List Item → List Agent
in_force [] = []
in_force (i ∷ past) = filter (λ a. not (ends past a i)) (in_force past) ++ option_to_list (registers past (in_force past) i)

-- the agent for a subject: the registration of its key, or else of the key of its session
abbrev pub agent_for : List Item → Facts → Option Agent
agent_for past f = or_else (agent_of f.key (in_force past)) (option_and_then (λ s. agent_of (Key.Session s.id s.uid) (in_force past)) (option_and_then (session_row (world_of past)) f.session))
