-- Who is live, with which uid and which process, is what looking back finds.
use Rattle.std.proofs.Common.{◌≡◌, ℕ, Bool, true, false, ◌&&◌, ◌||◌, not, List, [], ◌∷◌, ◌++◌, refl, ap, sym, ◌∙◌, Option, Some, None, is_some, subst}
use Rattle.std.proofs.lemmas.Bool.Decides.{Decides-eqb}
use Rattle.std.specs.Prelude.{if◌then◌else◌, option_and_then}
use Rattle.std.specs.Option.{option_map_or}
use Rattle.authority_model.specs.declared.event.Call.{Call}
use Rattle.authority_model.specs.declared.event.Event.{Event}
use Rattle.authority_model.specs.declared.journal.Item.{Item}
use Rattle.authority_model.specs.declared.process_id.ProcessId.{ProcessId}
use Rattle.authority_model.specs.declared.world.Process.{Process as ProcessRow}
use Rattle.authority_model.specs.Lists.{or_else, when}
use Rattle.authority_model.specs.Worlds.{process_row}
use Rattle.authority_model.specs.Items.{world_of}
use Rattle.authority_model.specs.Peers.{live, may_for, uid_of, connects, departs, call_in, is_by, process_named, accepts_announce, announces, announced, last_announced}
use Rattle.authority_model.specs.LookBack.{NoneOf, NeverConnects, IsUid, IsLive, Announces, NoneAnnounces, IsAnnounced}
use Rattle.authority_model.proofs.Cases.{both, then_some, when_some}
use Rattle.authority_laws.proofs.Calls.{call_is}
use Rattle.authority_laws.proofs.LiveSteps.{live_step}

never_is : (past : List Item) (c : ℕ) → uid_of past c ≡ None → NeverConnects past c
never_is [] c e = tt
never_is (i ∷ past) c e = of (uid_of past c) refl e (never_is past c)
  where
    of : (o : Option ℕ) → uid_of past c ≡ o → or_else o (connects c i) ≡ None → (uid_of past c ≡ None → NeverConnects past c) → (connects c i ≡ None) × NeverConnects past c
    of None is e ih = (e, ih is)
    of (Some u) is e ih = absurd (cc)

is_never : (past : List Item) (c : ℕ) → NeverConnects past c → uid_of past c ≡ None
is_never [] c h = refl
is_never (i ∷ past) c h = ap (λ o. or_else o (connects c i)) (is_never past c h.1) ∙ h.0

-- the uid is that of the first Connect
pub uid_back : (past : List Item) (c uid : ℕ) → uid_of past c ≡ Some uid → IsUid past c uid
uid_back [] c uid e = absurd (cc)
uid_back (i ∷ past) c uid e = of (uid_of past c) refl e (uid_back past c uid)
  where
    of : (o : Option ℕ) → uid_of past c ≡ o → or_else o (connects c i) ≡ Some uid → (uid_of past c ≡ Some uid → IsUid past c uid) → IsUid (i ∷ past) c uid
    of None is e ih = record { later = []; i = i; before = past; parts = refl; connects = e; first = never_is past c is }
    of (Some u) is e ih = let f = ih (is ∙ e) in record { later = i ∷ f.later; i = f.i; before = f.before; parts = ap (λ xs. i ∷ xs) f.parts; connects = f.connects; first = f.first }

uid_stays : (later : List Item) (i : Item) (before : List Item) (c uid : ℕ) → connects c i ≡ Some uid → NeverConnects before c → uid_of (later ++ i ∷ before) c ≡ Some uid
uid_stays [] i before c uid e never = ap (λ o. or_else o (connects c i)) (is_never before c never) ∙ e
uid_stays (j ∷ later) i before c uid e never = ap (λ o. or_else o (connects c j)) (uid_stays later i before c uid e never)

pub uid_forth : (past : List Item) (c uid : ℕ) → IsUid past c uid → uid_of past c ≡ Some uid
uid_forth past c uid u = ap (λ xs. uid_of xs c) u.parts ∙ uid_stays u.later u.i u.before c uid u.connects u.first

-- who is live connected, and did not depart since
pub live_back : (past : List Item) (c : ℕ) → live past c ≡ true → IsLive past c
live_back [] c e = absurd (cc)
live_back (i ∷ past) c e = of (live past c) refl (departs c i) refl (uid_of past c) refl (connects c i) refl (sym (live_step past i c) ∙ e) (live_back past c)
  where
    of : (l : Bool) → live past c ≡ l → (d : Bool) → departs c i ≡ d → (u : Option ℕ) → uid_of past c ≡ u → (n : Option ℕ) → connects c i ≡ n → ((l && not d) || (not (is_some u) && is_some n)) ≡ true → (live past c ≡ true → IsLive past c) → IsLive (i ∷ past) c
    of true l false d u is n now e ih = let f = ih l in record { later = i ∷ f.later; i = f.i; before = f.before; parts = ap (λ xs. i ∷ xs) f.parts; uid = f.uid; connects = f.connects; first = f.first; stays = (d, f.stays) }
    of b l t d None is (Some uid) now e ih = record { later = []; i = i; before = past; parts = refl; uid = uid; connects = now; first = never_is past c is; stays = tt }
    of true l true d None is None now e ih = absurd (cc)
    of false l b d None is None now e ih = absurd (cc)
    of true l true d (Some u) is n now e ih = absurd (cc)
    of false l b d (Some u) is n now e ih = absurd (cc)

live_stays : (later : List Item) (i : Item) (before : List Item) (c uid : ℕ) → connects c i ≡ Some uid → NeverConnects before c → NoneOf (λ past j. departs c j) later (i ∷ before) → live (later ++ i ∷ before) c ≡ true
live_stays [] i before c uid e never none = live_step before i c ∙ of (live before c && not (departs c i)) (uid_of before c) (is_never before c never) (connects c i) e
  where
    of : (b : Bool) (u : Option ℕ) → u ≡ None → (n : Option ℕ) → n ≡ Some uid → (b || (not (is_some u) && is_some n)) ≡ true
    of true u is n now = refl
    of false None is (Some x) now = refl
    of false None is None now = absurd (cc)
    of false (Some x) is n now = absurd (cc)
live_stays (j ∷ later) i before c uid e never none = live_step (later ++ i ∷ before) j c ∙ of (live (later ++ i ∷ before) c) (live_stays later i before c uid e never none.1) (departs c j) none.0
  where
    of : (l : Bool) → l ≡ true → (d : Bool) → d ≡ false → ((l && not d) || (not (is_some (uid_of (later ++ i ∷ before) c)) && is_some (connects c j))) ≡ true
    of true l false d = refl
    of true l true d = absurd (cc)
    of false l d is = absurd (cc)

pub live_forth : (past : List Item) (c : ℕ) → IsLive past c → live past c ≡ true
live_forth past c l = ap (λ xs. live xs c) l.parts ∙ live_stays l.later l.i l.before c l.uid l.connects l.first l.stays

-- an accepted announcement, as the sentence says it, and back
announces_is : (past : List Item) (i : Item) (c : ℕ) (p : ProcessId) → announces past c i ≡ Some p → Announces past i c p
announces_is past i c p e =
    let q = then_some (λ (q : ProcessId). when (is_by c i && accepts_announce past c q.pid q.start) q) (option_and_then process_named (call_in i.entry.event)) p e in
    let w = when_some (is_by c i && accepts_announce past c q.0.pid q.0.start) q.0 p q.2 in
    let call = then_some process_named (call_in i.entry.event) q.0 q.1 in
    let parts = both (is_by c i) (accepts_announce past c q.0.pid q.0.start) w.0 in
    of call.0 call.1 (call.2 ∙ ap Some w.1) parts.0 (subst (λ (r : ProcessId). accepts_announce past c r.pid r.start ≡ true) w.1 parts.1)
  where
    row : (o : Option ProcessRow) → option_map_or (λ p. may_for past c p.uid) o false ≡ true → (p : ProcessRow) × (o ≡ Some p) × (may_for past c p.uid ≡ true)
    row None e = absurd (cc)
    row (Some p) e = (p, refl, e)

    of : (call : Call) → call_in i.entry.event ≡ Some call → process_named call ≡ Some p → is_by c i ≡ true → accepts_announce past c p.pid p.start ≡ true → Announces past i c p
    of (Call.Announce pid start) is e by accepts =
        let shape = call_is i.entry.event (Call.Announce pid start) is in
        let made : ProcessId = record { pid = pid; start = start } in
        let same : made ≡ p = cc e in
        let parts = both (live past c) (option_map_or (λ row. may_for past c row.uid) (process_row (world_of past) p.pid p.start) false) accepts in
        let r = row (process_row (world_of past) p.pid p.start) parts.1 in
        record { caller = (Decides-eqb i.entry.caller c).0 by; serial = shape.0; quiet = shape.1; event = shape.2 ∙ ap (λ (q : ProcessId). Event.Call shape.0 shape.1 (Call.Announce q.pid q.start)) same; lives = parts.0; row = r.0; listed = r.1; may = r.2 }
    of _ is e by accepts = absurd (cc)

is_announces : (past : List Item) (i : Item) (c : ℕ) (p : ProcessId) → Announces past i c p → announces past c i ≡ Some p
is_announces past i c p g =
    ap (λ e. option_and_then (λ (q : ProcessId). when (is_by c i && accepts_announce past c q.pid q.start) q) (option_and_then process_named (call_in e))) g.event
    ∙ ap (λ b. when (b && accepts_announce past c p.pid p.start) p) ((Decides-eqb i.entry.caller c).1 g.caller)
    ∙ ap (λ b. when (b && option_map_or (λ row. may_for past c row.uid) (process_row (world_of past) p.pid p.start) false) p) g.lives
    ∙ ap (λ o. when (option_map_or (λ row. may_for past c row.uid) o false) p) g.listed
    ∙ ap (λ b. when b p) g.may

-- the last item that announces names this process
pub record LastNames (past : List Item) (c : ℕ) (p : ProcessId) : Type 0 where
  pub later : List Item
  pub i : Item
  pub before : List Item
  pub parts : past ≡ later ++ i ∷ before
  pub announces : Announces before i c p
  pub last : NoneAnnounces later (i ∷ before) c

last_back : (past : List Item) (c : ℕ) (p : ProcessId) → last_announced past c ≡ Some p → LastNames past c p
last_back [] c p e = absurd (cc)
last_back (i ∷ past) c p e = of (announces past c i) refl e (last_back past c p)
  where
    of : (o : Option ProcessId) → announces past c i ≡ o → or_else o (last_announced past c) ≡ Some p → (last_announced past c ≡ Some p → LastNames past c p) → LastNames (i ∷ past) c p
    of (Some q) is e ih = record { later = []; i = i; before = past; parts = refl; announces = announces_is past i c p (is ∙ e); last = tt }
    of None is e ih =
        let f = ih e in
        let none : announces (f.later ++ f.i ∷ f.before) c i ≡ None = subst (λ xs. announces xs c i ≡ None) f.parts is in
        record { later = i ∷ f.later; i = f.i; before = f.before; parts = ap (λ xs. i ∷ xs) f.parts; announces = f.announces; last = ((λ q a. absurd (cc (is_announces (f.later ++ f.i ∷ f.before) i c q a, none))), f.last) }

last_stays : (later : List Item) (i : Item) (before : List Item) (c : ℕ) (p : ProcessId) → Announces before i c p → NoneAnnounces later (i ∷ before) c → last_announced (later ++ i ∷ before) c ≡ Some p
last_stays [] i before c p a none = ap (λ o. or_else o (last_announced before c)) (is_announces before i c p a)
last_stays (j ∷ later) i before c p a none = of (announces (later ++ i ∷ before) c j) refl (last_stays later i before c p a none.1)
  where
    of : (o : Option ProcessId) → announces (later ++ i ∷ before) c j ≡ o → last_announced (later ++ i ∷ before) c ≡ Some p → or_else o (last_announced (later ++ i ∷ before) c) ≡ Some p
    of None is ih = ih
    of (Some q) is ih = absurd (none.0 q (announces_is (later ++ i ∷ before) j c q is))

-- the announced process is the last one
pub announced_back : (past : List Item) (c : ℕ) (p : ProcessId) → announced past c ≡ Some p → IsAnnounced past c p
announced_back past c p e = of (live past c) refl e
  where
    of : (b : Bool) → live past c ≡ b → (if b then last_announced past c else None) ≡ Some p → IsAnnounced past c p
    of true is e = let f = last_back past c p e in record { lives = is; later = f.later; i = f.i; before = f.before; parts = f.parts; announces = f.announces; last = f.last }
    of false is e = absurd (cc)

pub announced_forth : (past : List Item) (c : ℕ) (p : ProcessId) → IsAnnounced past c p → announced past c ≡ Some p
announced_forth past c p a = ap (λ b. if b then last_announced past c else None) a.lives ∙ ap (λ xs. last_announced xs c) a.parts ∙ last_stays a.later a.i a.before c p a.announces a.last
