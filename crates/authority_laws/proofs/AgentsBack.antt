-- The registrations in force are those that looking back finds.
use Rattle.std.proofs.Common.{◌≡◌, ℕ, Bool, true, false, ◌&&◌, not, List, [], ◌∷◌, ◌++◌, refl, ap, sym, ◌∙◌, inl, inr, ◌⊎◌, Option, Some, None, is_some, subst}
use Rattle.std.proofs.lemmas.Bool.Decides.{Decides-eqb}
use Rattle.std.proofs.lemmas.Slice.Eq.{bytes_eq-Decides}
use Rattle.std.proofs.lemmas.List.{append_assoc}
use Rattle.std.specs.Prelude.{filter, option_and_then, option_to_list}
use Rattle.pk_types.specs.declared.values.Subject.{Subject}
use Rattle.authority_model.specs.declared.pending.Agent.{Agent}
use Rattle.authority_model.specs.declared.event.Call.{Call}
use Rattle.authority_model.specs.declared.journal.Item.{Item}
use Rattle.authority_model.specs.declared.key.Key.{Key}
use Rattle.authority_model.specs.declared.process_id.ProcessId.{ProcessId}
use Rattle.authority_model.specs.declared.world.Process.{Process as ProcessRow}
use Rattle.authority_model.specs.declared.world.Session.{Session as SessionRow}
use Rattle.authority_model.specs.Words.{Bytes}
use Rattle.authority_model.specs.Lists.{Has, when}
use Rattle.authority_model.specs.Keys.{same_key, uid_of_key}
use Rattle.authority_model.specs.Facts.{Facts, facts_of_process, facts_of_session}
use Rattle.authority_model.specs.Worlds.{process_row, session_row}
use Rattle.authority_model.specs.Items.{world_of}
use Rattle.authority_model.specs.Subjects.{facts, facts_of_pid, caller_named}
use Rattle.authority_model.specs.Peers.{announced, live, may_for, call_in}
use Rattle.authority_model.specs.Agents.{in_force, registers, registered, registered_for, agent_of, ends}
use Rattle.authority_model.specs.LookBack.{NoneOf, Registers, InForceSince, InForce}
use Rattle.authority_model.proofs.Cases.{both, map_some, then_some, when_some, append_has, filter_has}
use Rattle.authority_laws.proofs.OnlyOne.{find_none, none_passes}
use Rattle.authority_laws.proofs.AgentSteps.{same_key_is, registers_new}
use Rattle.authority_laws.proofs.Calls.{call_is}
use Rattle.authority_laws.proofs.Standing.{not_true, has_left, has_right, filter_in}

-- one more item, the oldest of the later ones
pub none_snoc : (test : List Item → Item → Bool) (later : List Item) (r : Item) (before : List Item) → NoneOf test later (r ∷ before) → test before r ≡ false → NoneOf test (later ++ r ∷ []) before
none_snoc test [] r before h e = (e, tt)
none_snoc test (j ∷ later) r before h e = (ap (λ xs. test xs j) (append_assoc later (r ∷ []) before) ∙ h.0, none_snoc test later r before h.1 e)

-- the same, taken apart again
pub none_unsnoc : (test : List Item → Item → Bool) (later : List Item) (r : Item) (before : List Item) → NoneOf test (later ++ r ∷ []) before → NoneOf test later (r ∷ before) × (test before r ≡ false)
none_unsnoc test [] r before h = (tt, h.0)
none_unsnoc test (j ∷ later) r before h = let rest = none_unsnoc test later r before h.1 in ((sym (ap (λ xs. test xs j) (append_assoc later (r ∷ []) before)) ∙ h.0, rest.0), rest.1)

-- a key is itself
pub same_key_refl : (k : Key) → same_key k k ≡ true
same_key_refl (Key.Process p s u) = rw ((Decides-eqb p p).1 refl) (rw ((Decides-eqb s s).1 refl) (rw ((Decides-eqb u u).1 refl) refl))
same_key_refl (Key.Session i u) = rw ((bytes_eq-Decides i i).1 refl) (rw ((Decides-eqb u u).1 refl) refl)

-- what facts come from
pub facts_from : (past : List Item) (P : Facts → Type 0) → ((pid start : ℕ) (p : ProcessRow) → process_row (world_of past) pid start ≡ Some p → P (facts_of_process (world_of past) p)) → ((id : Bytes) (s : SessionRow) → session_row (world_of past) id ≡ Some s → P (facts_of_session s))
    → (subject : Subject) (f : Facts) → facts past subject ≡ Some f → P f
facts_from past P process session subject f e = of subject e
  where
    by_pid : (pid start : ℕ) → facts_of_pid past pid start ≡ Some f → P f
    by_pid pid start e = let row = map_some (facts_of_process (world_of past)) (process_row (world_of past) pid start) f e in subst P row.2 (process pid start row.0 row.1)

    of : (subject : Subject) → facts past subject ≡ Some f → P f
    of (Subject.Process pid start) e = by_pid pid start e
    of (Subject.Session id) e = let row = map_some facts_of_session (session_row (world_of past) id) f e in subst P row.2 (session id row.0 row.1)
    of (Subject.BusName name) e = let p = then_some (λ (p : ProcessId). facts_of_pid past p.pid p.start) (option_and_then (announced past) (caller_named name)) f e in by_pid p.0.pid p.0.start p.2

-- the uid that is known of a subject is that in its key
pub facts_uid : (past : List Item) (subject : Subject) (f : Facts) → facts past subject ≡ Some f → f.uid ≡ uid_of_key f.key
facts_uid past = facts_from past (λ f. f.uid ≡ uid_of_key f.key) (λ pid start p e. refl) (λ id s e. refl)

-- a registration that an item makes, as the sentence says it, and back
pub registers_is : (past : List Item) (r : Item) (a : Agent) → registers past (in_force past) r ≡ Some a → Registers past r a
registers_is past r a e = let call = then_some (registered past (in_force past) r) (call_in r.entry.event) a e in of call.0 call.1 call.2
  where
    of : (call : Call) → call_in r.entry.event ≡ Some call → registered past (in_force past) r call ≡ Some a → Registers past r a
    of (Call.Register subject locale path) is e =
        let shape = call_is r.entry.event (Call.Register subject locale path) is in
        let f = then_some (registered_for past (in_force past) r locale path) (facts past subject) a e in
        let given : Agent = record { caller = r.entry.caller; key = f.0.key; path = path; locale = locale } in
        let w = when_some (live past r.entry.caller && may_for past r.entry.caller f.0.uid && not (is_some (agent_of f.0.key (in_force past)))) given a f.2 in
        let n = both (live past r.entry.caller && may_for past r.entry.caller f.0.uid) (not (is_some (agent_of f.0.key (in_force past)))) w.0 in
        let m = both (live past r.entry.caller) (may_for past r.entry.caller f.0.uid) n.0 in
        subst (Registers past r) w.1 (record { serial = shape.0; quiet = shape.1; subject = subject; event = shape.2; caller = refl; lives = m.0; f = f.0; facts_are = f.1; key_is = refl; may = ap (may_for past r.entry.caller) (sym (facts_uid past subject f.0 f.1)) ∙ m.1 })
    of _ is e = absurd (cc)

is_registers : (past : List Item) (r : Item) (a : Agent) → Registers past r a → agent_of a.key (in_force past) ≡ None → registers past (in_force past) r ≡ Some a
is_registers past r a g free =
    ap (λ e. option_and_then (registered past (in_force past) r) (call_in e)) g.event
    ∙ ap (option_and_then (registered_for past (in_force past) r a.locale a.path)) g.facts_are
    ∙ ap (λ b. when b (record { caller = r.entry.caller; key = g.f.key; path = a.path; locale = a.locale })) test
    ∙ ap Some (ap (λ c. record { caller = c; key = g.f.key; path = a.path; locale = a.locale }) g.caller ∙ ap (λ k. record { caller = a.caller; key = k; path = a.path; locale = a.locale }) g.key_is)
  where
    test : (live past r.entry.caller && may_for past r.entry.caller g.f.uid && not (is_some (agent_of g.f.key (in_force past)))) ≡ true
    test =
        let lives : live past r.entry.caller ≡ true = ap (live past) g.caller ∙ g.lives in
        let may : may_for past r.entry.caller g.f.uid ≡ true = ap (λ c. may_for past c g.f.uid) g.caller ∙ ap (may_for past a.caller) (facts_uid past g.subject g.f g.facts_are ∙ ap uid_of_key g.key_is) ∙ g.may in
        let none : agent_of g.f.key (in_force past) ≡ None = ap (λ k. agent_of k (in_force past)) g.key_is ∙ free in
        ap (λ b. b && may_for past r.entry.caller g.f.uid && not (is_some (agent_of g.f.key (in_force past)))) lives ∙ ap (λ b. b && not (is_some (agent_of g.f.key (in_force past)))) may ∙ ap (λ o. not (is_some o)) none

-- what both directions say, with items that come after the history
abbrev Back : List Item → Type 0
Back past = (later : List Item) (a : Agent) → InForceSince later past a → Has (in_force past) a × NoneOf (λ past j. ends past a j) later past

abbrev Forth : List Item → Type 0
Forth past = (later : List Item) (a : Agent) → Has (in_force past) a → NoneOf (λ past j. ends past a j) later past → InForceSince later past a

back_step : (r : Item) (before : List Item) → Back before → Forth before → Back (r ∷ before)
back_step r before back forth later a (inl h) = (has_right (filter (λ a. not (ends before a r)) (in_force before)) (option_to_list (registers before (in_force before) r)) a (subst (λ o. Has (option_to_list o) a) (sym (is_registers before r a h.0 free)) (inl refl)), h.2)
  where
    of : (b : Agent) → Has (in_force before) b → (t : Bool) → same_key b.key a.key ≡ t → t ≡ false
    of b there false e = refl
    of b there true e = absurd (h.1 b (forth [] b there tt) (same_key_is b.key a.key e))

    free : agent_of a.key (in_force before) ≡ None
    free = find_none (λ b. same_key b.key a.key) (in_force before) (λ b there. of b there (same_key b.key a.key) refl)
back_step r before back forth later a (inr h) =
    let old = back (later ++ r ∷ []) a h in
    let rest = none_unsnoc (λ past j. ends past a j) later r before old.1 in
    (has_left (filter (λ a. not (ends before a r)) (in_force before)) (option_to_list (registers before (in_force before) r)) a (filter_in (λ a. not (ends before a r)) (in_force before) a old.0 (ap not rest.1)), rest.0)

forth_step : (r : Item) (before : List Item) → Back before → Forth before → Forth (r ∷ before)
forth_step r before back forth later a h none = of (append_has (filter (λ a. not (ends before a r)) (in_force before)) (option_to_list (registers before (in_force before) r)) a h)
  where
    made : registers before (in_force before) r ≡ Some a → InForceSince later (r ∷ before) a
    made e = inl (registers_is before r a e, (λ b since same. clash b (back [] b since).0 same), none)
      where
        clash : (b : Agent) → Has (in_force before) b → b.key ≡ a.key → ⊥
        clash b there same =
            let out : same_key b.key a.key ≡ false = none_passes (λ (b : Agent). same_key b.key a.key) (in_force before) (registers_new before (in_force before) r a e) b there in
            let yes' : same_key b.key a.key ≡ true = ap (λ k. same_key k a.key) same ∙ same_key_refl a.key in
            cc

    new : (o : Option Agent) → registers before (in_force before) r ≡ o → Has (option_to_list o) a → InForceSince later (r ∷ before) a
    new None e h = absurd h
    new (Some b) e (inl same) = made (e ∙ ap Some same)
    new (Some b) e (inr h) = absurd h

    of : Has (filter (λ a. not (ends before a r)) (in_force before)) a ⊎ Has (option_to_list (registers before (in_force before) r)) a → InForceSince later (r ∷ before) a
    of (inl h) =
        let old = filter_has (λ a. not (ends before a r)) (in_force before) a h in
        inr (forth (later ++ r ∷ []) a old.0 (none_snoc (λ past j. ends past a j) later r before none (not_true (ends before a r) old.1)))
    of (inr h) = new (registers before (in_force before) r) refl h

both_ways : (past : List Item) → Back past × Forth past
both_ways [] = ((λ later a h. absurd h), (λ later a h none. absurd h))
both_ways (r ∷ before) = let ih = both_ways before in (back_step r before ih.0 ih.1, forth_step r before ih.0 ih.1)

-- looking back finds what is in the list, and what it finds is in the list
pub in_force_back : (past : List Item) (a : Agent) → (Has (in_force past) a → InForce past a) × (InForce past a → Has (in_force past) a)
in_force_back past a = let ways = both_ways past in ((λ h. ways.1 [] a h tt), (λ h. (ways.0 [] a h).0))
