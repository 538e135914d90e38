-- What is known of a connection after one more item.
use Rattle.std.proofs.Common.{◌≡◌, ℕ, ◌==◌, Bool, true, false, ◌&&◌, ◌||◌, not, List, [], ◌∷◌, refl, ap, sym, ◌∙◌, Option, Some, None, is_some, arith}
use Rattle.std.proofs.lemmas.Bool.Decides.{Decides-eqb, nat_tests}
use Rattle.std.specs.Ordering.{nat_cmp, is_eq}
use Rattle.std.specs.Prelude.{if◌then◌else◌, option_map, option_and_then}
use Rattle.std.specs.Option.{option_map_or}
use Rattle.authority_model.specs.declared.event.Event.{Event}
use Rattle.authority_model.specs.declared.event.Event.TheVariants.{Connect, Call as Called, Returned, AgentError, Passed, Depart, Load, LoadFailed, Stop, Collect}
use Rattle.authority_model.specs.declared.journal.Entry.{Entry}
use Rattle.authority_model.specs.declared.journal.Item.{Item}
use Rattle.authority_model.specs.declared.load.Loaded.{Loaded}
use Rattle.entry_changes.specs.declared.peer.Peer.{Peer}
use Rattle.authority_model.specs.declared.process_id.ProcessId.{ProcessId}
use Rattle.authority_model.specs.declared.world.World.{World}
use Rattle.authority_model.specs.Answers.{loads}
use Rattle.authority_model.specs.Items.{loaded_of, world_of}
use Rattle.authority_model.specs.Legal.{IsNumbered}
use Rattle.authority_model.specs.Lists.{or_else, when}
use Rattle.authority_model.specs.Peers.{uid_of, departed, last_announced, uid_given, is_depart, is_by, connects, departs, call_in, process_named}
use Rattle.entry_changes.specs.Known.{known}
use Rattle.authority_model.specs.Worlds.{process_row}
use Rattle.peer_changes.specs.Next.{known_by, row_after, may_announce}

-- who never connected has not departed
departed_unknown : (past : List Item) (c : ℕ) → uid_of past c ≡ None → departed past c ≡ false
departed_unknown [] c e = refl
departed_unknown (i ∷ past) c e = go (uid_of past c) refl e (departed_unknown past c)
  where
    go : (u : Option ℕ) → uid_of past c ≡ u → or_else u (connects c i) ≡ None → (uid_of past c ≡ None → departed past c ≡ false) → (departed past c || (is_some u && departs c i)) ≡ false
    go None is e ih = ap (λ b. b || false) (ih is)
    go (Some uid) is e ih = absurd (cc)

-- the process that an item of a connection of this uid announces in a world
abbrev accepted_of : World → Option ℕ → Bool → Bool → Option ProcessId → Option ProcessId
accepted_of world u d by named = option_and_then (λ p. when (by && (is_some u && not d && option_map_or (λ q. option_map_or (λ own. (own == q.uid) || (own == 0)) u false) (process_row world p.pid p.start) false)) p) named

-- who never connected has announced nothing
announced_unknown : (past : List Item) (c : ℕ) → uid_of past c ≡ None → last_announced past c ≡ None
announced_unknown [] c e = refl
announced_unknown (i ∷ past) c e = go (uid_of past c) refl e (is_by c i) (option_and_then process_named (call_in i.entry.event)) (announced_unknown past c)
  where
    go : (u : Option ℕ) → uid_of past c ≡ u → or_else u (connects c i) ≡ None → (by : Bool) (named : Option ProcessId) → (uid_of past c ≡ None → last_announced past c ≡ None) → or_else (accepted_of (world_of past) u (departed past c) by named) (last_announced past c) ≡ None
    go None is e true (Some p) ih = ih is
    go None is e false (Some p) ih = ih is
    go None is e by None ih = ih is
    go (Some uid) is e by named ih = absurd (cc)

-- a row of these parts
abbrev row_with : Bool → Option ProcessId → ℕ → Peer
row_with d n uid = record { uid = uid; departed = d; announced = n }

-- the row after an event that connects with this uid, or ends the connection, or announces this process
abbrev row_by : World → Option Peer → Option ℕ → Bool → Option ProcessId → Option Peer
row_by world None given ends named = option_map (λ uid. record { uid = uid; departed = false; announced = None }) given
row_by world (Some row) given ends named = Some (record {
  uid = row.uid;
  departed = row.departed || ends;
  announced = or_else (option_and_then (λ p. when (may_announce world row p) p) named) row.announced;
})

-- that row is the one after the event
row_by_event : (world : World) (row : Option Peer) (event : Event) → row_by world row (uid_given event) (is_depart event) (option_and_then process_named (call_in event)) ≡ row_after world row event
row_by_event world None event = refl
row_by_event world (Some row) event = refl

-- what is known of a connection after one more item: after its own event its next row, and else what was known
known_step : (past : List Item) (i : Item) (c : ℕ) → known (i ∷ past) c ≡ (if is_by c i then row_by (world_of past) (known past c) (uid_given i.entry.event) (is_depart i.entry.event) (option_and_then process_named (call_in i.entry.event)) else known past c)
known_step past i c = go (world_of past) (uid_of past c) (departed past c) (last_announced past c) (is_by c i) (uid_given i.entry.event) (is_depart i.entry.event) (option_and_then process_named (call_in i.entry.event)) (departed_unknown past c) (announced_unknown past c)
  where
    go : (world : World) (u : Option ℕ) (d : Bool) (n : Option ProcessId) (by : Bool) (given : Option ℕ) (ends : Bool) (named : Option ProcessId)
        → (u ≡ None → d ≡ false) → (u ≡ None → n ≡ None)
        → option_map (row_with (d || (is_some u && (by && ends))) (or_else (accepted_of world u d by named) n)) (or_else u (if by then given else None))
        ≡ (if by then row_by world (option_map (row_with d n) u) given ends named else option_map (row_with d n) u)
    go world None d n false given ends named hd hn = refl
    go world None d n true None ends named hd hn = refl
    go world None true n true (Some uid) ends named hd hn = absurd (cc (hd refl))
    go world None false (Some p) true (Some uid) ends named hd hn = absurd (cc (hn refl))
    go world None false None true (Some uid) ends None hd hn = refl
    go world None false None true (Some uid) ends (Some p) hd hn = refl
    go world (Some uid) true n false given ends None hd hn = refl
    go world (Some uid) true n false given ends (Some p) hd hn = refl
    go world (Some uid) false n false given ends None hd hn = refl
    go world (Some uid) false n false given ends (Some p) hd hn = refl
    go world (Some uid) true n true given ends named hd hn = refl
    go world (Some uid) false n true given ends named hd hn = refl

-- numbers compare as equal exactly where they are one
pub same_number : (a b : ℕ) → is_eq (nat_cmp a b) ≡ (a == b)
same_number a b = grind (arith, nat_tests)

-- an entry that is not a load has the world in force before it, and a load announces nothing
same_world : (past : List Item) (i : Item) (row : Option Peer) → IsNumbered (loads past) i.entry.event i.loaded → row_after (world_of (i ∷ past)) row i.entry.event ≡ row_after (world_of past) row i.entry.event
same_world past i row numbered = go i.entry.event i.loaded row numbered
  where
    after : Option Loaded → Option Peer → Event → Option Peer
    after loaded row event = row_after (option_map_or (λ l. l) loaded (loaded_of past)).world row event

    go : (event : Event) (loaded : Option Loaded) (row : Option Peer) → IsNumbered (loads past) event loaded → after loaded row event ≡ row_after (world_of past) row event
    go (Load load) loaded None numbered = refl
    go (Load load) loaded (Some r) numbered = refl
    go (Connect uid) loaded row numbered = ap (λ l. after l row (Connect uid)) numbered
    go (Called serial quiet call) loaded row numbered = ap (λ l. after l row (Called serial quiet call)) numbered
    go (Returned serial) loaded row numbered = ap (λ l. after l row (Returned serial)) numbered
    go (AgentError serial name) loaded row numbered = ap (λ l. after l row (AgentError serial name)) numbered
    go Passed loaded row numbered = ap (λ l. after l row Passed) numbered
    go Depart loaded row numbered = ap (λ l. after l row Depart) numbered
    go (LoadFailed code) loaded row numbered = ap (λ l. after l row (LoadFailed code)) numbered
    go Stop loaded row numbered = ap (λ l. after l row Stop) numbered
    go (Collect of) loaded row numbered = ap (λ l. after l row (Collect of)) numbered

-- what is known of a connection after one more item
pub known_next : (past : List Item) (i : Item) → IsNumbered (loads past) i.entry.event i.loaded → (c : ℕ) → known (i ∷ past) c ≡ known_by i.entry.caller (row_after (world_of (i ∷ past)) (known past i.entry.caller) i.entry.event) c (known past c)
known_next past i numbered c =
    known_step past i c
    ∙ ap (λ row. if i.entry.caller == c then row else known past c)
    (row_by_event (world_of past) (known past c) i.entry.event ∙ sym (same_world past i (known past c) numbered))
    ∙ go (i.entry.caller == c) refl
  where
    after : ℕ → Option Peer
    after q = row_after (world_of (i ∷ past)) (known past q) i.entry.event

    go : (b : Bool) → (i.entry.caller == c) ≡ b → (if b then after c else known past c) ≡ (if b then after i.entry.caller else known past c)
    go true e = ap after (sym ((Decides-eqb i.entry.caller c).0 e))
    go false e = refl

-- what is known of the caller after its item
pub known_own : (past : List Item) (i : Item) → IsNumbered (loads past) i.entry.event i.loaded → known (i ∷ past) i.entry.caller ≡ row_after (world_of (i ∷ past)) (known past i.entry.caller) i.entry.event
known_own past i numbered = known_next past i numbered i.entry.caller ∙ ap (λ b. if b then row_after (world_of (i ∷ past)) (known past i.entry.caller) i.entry.event else known past i.entry.caller) (self i.entry.caller)
  where
    self : (c : ℕ) → (c == c) ≡ true
    self c = grind (arith, nat_tests)

-- who is known stays known
pub known_stays : (past : List Item) (i : Item) (c : ℕ) → known (i ∷ past) c ≡ None → known past c ≡ None
known_stays past i c e = go (known past c) (is_by c i) (sym (known_step past i c) ∙ e)
  where
    go : (row : Option Peer) (by : Bool) → (if by then row_by (world_of past) row (uid_given i.entry.event) (is_depart i.entry.event) (option_and_then process_named (call_in i.entry.event)) else row) ≡ None → row ≡ None
    go None by e = refl
    go (Some row) true e = absurd (cc e)
    go (Some row) false e = e

-- of every connection but the caller the same is known
pub known_other : (past : List Item) (i : Item) (c : ℕ) → (i.entry.caller == c) ≡ false → known (i ∷ past) c ≡ known past c
known_other past i c other = known_step past i c ∙ ap (λ b. if b then row_by (world_of past) (known past c) (uid_given i.entry.event) (is_depart i.entry.event) (option_and_then process_named (call_in i.entry.event)) else known past c) other
