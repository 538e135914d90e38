-- Each output of an item may go where it goes.
use Rattle.std.proofs.Common.{◌≡◌, ◌≢◌, ℕ, ◌≤◌, ◌==◌, Bool, true, false, ◌&&◌, ◌||◌, not, List, [], ◌∷◌, ◌++◌, refl, inl, inr, Option, Some, None, is_some, arith}
use Rattle.std.proofs.lemmas.Bool.Decides.{Decides-eqb}
use Rattle.std.specs.Prelude.{if◌then◌else◌, find, bytes_eq, flat_map, map, nat_le}
use Rattle.std.specs.Option.{option_map_or}
use Rattle.pk_types.specs.Decimals.{is_empty}
use Rattle.pk_types.specs.declared.values.Pair.{Pair}
use Rattle.pk_types.specs.declared.values.Subject.{Subject}
use Rattle.pk_types.specs.declared.values.Implicit.{Implicit}
use Rattle.authority_model.specs.declared.event.Call.{Call}
use Rattle.authority_model.specs.declared.event.Event.{Event}
use Rattle.authority_model.specs.declared.event.Event.TheVariants.{Connect, Call as Called, Returned, AgentError, Passed, Depart, Load, LoadFailed, Stop, Collect}
use Rattle.authority_model.specs.declared.message.ErrorCause.{ErrorCause}
use Rattle.authority_model.specs.declared.message.Answer.{Answer}
use Rattle.authority_model.specs.declared.message.Message.{Message}
use Rattle.authority_model.specs.declared.message.Output.{Output}
use Rattle.authority_model.specs.declared.verdict.Reason.{Reason}
use Rattle.authority_model.specs.declared.verdict.RuleSource.{RuleSource}
use Rattle.authority_model.specs.declared.policy.Action.{Action}
use Rattle.authority_model.specs.Words.{Bytes, bus_name}
use Rattle.authority_model.specs.Interaction.{allows_interaction}
use Rattle.authority_model.specs.Lists.{Has, any_of}
use Rattle.authority_model.specs.Keys.{same_key, uid_of_key}
use Rattle.authority_model.specs.Facts.{Facts}
use Rattle.authority_model.specs.Worlds.{lists_key}
use Rattle.authority_model.specs.Rules.{action_of}
use Rattle.authority_model.specs.declared.journal.Item.{Item}
use Rattle.authority_model.specs.Items.{policy_of, implicit_for}
use Rattle.authority_model.specs.Subjects.{facts}
use Rattle.authority_model.specs.Peers.{live, live_connections, accepts_announce, may_for, is_root}
use Rattle.authority_model.specs.declared.key.Key.{Key}
use Rattle.authority_model.specs.declared.pending.Agent.{Agent}
use Rattle.authority_model.specs.declared.pending.TheConstants.{MAX_PENDING}
use Rattle.authority_model.specs.Agents.{agent_for, agent_of, in_force}
use Rattle.authority_model.specs.declared.verdict.GrantRow.{GrantRow}
use Rattle.authority_model.specs.declared.pending.Pending.{Pending}
use Rattle.authority_model.specs.declared.verdict.Verdict.{Verdict}
use Rattle.authority_model.specs.Challenges.{pending, at_agent, with_id, pending_beside, pending_at}
use Rattle.authority_model.specs.Cookies.{cookie_text, grant_text}
use Rattle.authority_model.specs.Grants.{kept, made}
use Rattle.authority_model.specs.declared.load.Loaded.{Loaded}
use Rattle.authority_model.specs.declared.world.World.{World}
use Rattle.authority_model.specs.Deciding.{Decision, decided, is_live_at}
use Rattle.authority_model.specs.Verdicts.{verdict_of, no_by, offers, return_verdict}
use Rattle.authority_model.specs.Answers.{loads, reply, answers, answer_call, answer_check, tell, tell_challenge, changed, answer_return, answer_error, tell_return, answer_departed, answer_loaded, for_known, reply_agent_gone, ask, refuse, answer_for, answer_known, answer_unregister, cancelled_name, cancel_begin, reply_to, answer_cancel, answer_respond, answer_revoke, live_grants}
use Rattle.authority_model.specs.Trust.{trusted}
use Rattle.authority_model.specs.Legal.{Legal}
use Rattle.authority_model.proofs.Cases.{by_test, by_option, Each-append, find_has, filter_has}
use Rattle.authority_laws.specs.Batches.{load_in_answer}
use Rattle.authority_laws.specs.Outputs.{MayGo, AllMayGo}
use Rattle.authority_laws.proofs.LiveAgents.{agent_for_live, pending_live}
use Rattle.authority_laws.proofs.RisingLists.{live_back}
use Rattle.authority_laws.proofs.Standing.{neither}

module _ (past : List Item) (legal : Legal past) where
  reply_goes : (c serial : ℕ) (quiet : Bool) (answer : Answer) → live past c ≡ true → load_in_answer answer ≤ loads past → AllMayGo past (reply c serial quiet answer)
  reply_goes c serial quiet answer lives named = by_test (AllMayGo past) (quiet || (serial == 0)) [] (record { to = c; message = Message.Reply serial answer } ∷ []) (λ _. tt) (λ none. ((lives, given none, named), tt))
    where
      given : (quiet || (serial == 0)) ≡ false → serial ≢ 0
      given none zero_is = let other = (neither quiet (serial == 0) none).1 in absurd (cc (other, (Decides-eqb serial 0).1 zero_is))

  append_goes : (xs ys : List Output) → AllMayGo past xs → AllMayGo past ys → AllMayGo past (xs ++ ys)
  append_goes xs ys h k = Each-append (λ o. MayGo past o.to o.message) xs ys h k

  flat_goes : {A : Type 0} (f : A → List Output) (xs : List A) → ((x : A) → Has xs x → AllMayGo past (f x)) → AllMayGo past (flat_map f xs)
  flat_goes f [] h = tt
  flat_goes f (x ∷ xs) h = append_goes (f x) (flat_map f xs) (h x (inl refl)) (flat_goes f xs (λ y k. h y (inr k)))

  changed_goes : AllMayGo past (changed past)
  changed_goes = of (live_connections past) (live_back past)
    where
      of : (cs : List ℕ) → ((c : ℕ) → Has cs c → live past c ≡ true) → AllMayGo past (map (λ c. record { to = c; message = Message.Changed }) cs)
      of [] h = tt
      of (c ∷ cs) h = (h c (inl refl), of cs (λ d k. h d (inr k)))

  -- what is told the asker or the agent of a pending challenge
  asker_goes : (ch : Pending) → Has (pending past) ch → (answer : Answer) → load_in_answer answer ≡ 0 → AllMayGo past (reply_to ch answer)
  asker_goes ch h answer none = reply_goes ch.asker ch.serial ch.quiet answer (pending_live past legal ch h).0 (omega (arith, none))

  agent_goes : (ch : Pending) → Has (pending past) ch → AllMayGo past (cancel_begin ch)
  agent_goes ch h = ((pending_live past legal ch h).1, tt)

  gone_goes : (ch : Pending) → Has (pending past) ch → AllMayGo past (reply_agent_gone ch)
  gone_goes ch h = asker_goes ch h (Answer.Verdict (no_by Reason.AgentGone)) refl

  -- a call by a live connection
  module _ (c t salt serial : ℕ) (quiet : Bool) (lives : live past c ≡ true) where
    abbrev say : Answer → List Output
    say = reply c serial quiet

    said : (answer : Answer) → load_in_answer answer ≡ 0 → AllMayGo past (reply c serial quiet answer)
    said answer none = reply_goes c serial quiet answer lives (omega (arith, none))

    refused : (cause : ErrorCause) → AllMayGo past (reply c serial quiet (Answer.Refused cause))
    refused cause = said (Answer.Refused cause) refl

    tell_goes : (f : Facts) (a : Action) (details : List Pair) (flags : ℕ) (d : Decision) → AllMayGo past (tell past c salt f a details flags (reply c serial quiet) d)
    tell_goes f a details flags = of
      where
        told : (d : Decision) → AllMayGo past (reply c serial quiet (Answer.Verdict (verdict_of past d)))
        told d = said (Answer.Verdict (verdict_of past d)) refl

        of_challenge : (value : Implicit) (source : RuleSource) (b : Bool) (o : Option Agent) → agent_for past f ≡ o → AllMayGo past (tell_challenge past c salt f a details (reply c serial quiet) value source b o)
        of_challenge value source true (Some agent) e = by_test (AllMayGo past) (nat_le MAX_PENDING (pending_beside past c)) (reply c serial quiet (Answer.Refused ErrorCause.TooManyPending)) (ask past salt f agent a value details) (λ _. refused ErrorCause.TooManyPending) (λ _. (agent_for_live past f agent e, tt))
        of_challenge value source true None e = told (Decision.Challenge value source)
        of_challenge value source false o e = told (Decision.Challenge value source)

        of : (d : Decision) → AllMayGo past (tell past c salt f a details flags (reply c serial quiet) d)
        of Decision.Root = told Decision.Root
        of (Decision.Yes source) = told (Decision.Yes source)
        of (Decision.Granted g) = told (Decision.Granted g)
        of (Decision.Imply b) = told (Decision.Imply b)
        of (Decision.Challenge value source) = of_challenge value source (allows_interaction flags) (agent_for past f) refl
        of (Decision.No source) = told (Decision.No source)

    check_goes : (subject : Subject) (action : Bytes) (details : List Pair) (flags : ℕ) (cancel : Bytes) → AllMayGo past (answer_check past c t salt subject action details flags cancel (reply c serial quiet))
    check_goes subject action details flags cancel =
        by_test (AllMayGo past) (is_some (with_id past c cancel)) (refuse say ErrorCause.IdInUse) (option_map_or (answer_known past c t salt subject action details flags say) (action_of (policy_of past) action) (refuse say ErrorCause.UnknownAction)) (λ _. refused ErrorCause.IdInUse) (λ _.
        by_option (AllMayGo past) (answer_known past c t salt subject action details flags say) (action_of (policy_of past) action) (refuse say ErrorCause.UnknownAction) (λ _. refused ErrorCause.UnknownAction) (λ a _.
        by_option (AllMayGo past) (answer_for past c t salt action details flags say a) (facts past subject) (refuse say ErrorCause.UnknownSubject) (λ _. refused ErrorCause.UnknownSubject) (λ f _.
        by_test (AllMayGo past) (trusted past c f details action) (option_map_or (λ v. tell past c salt f a details flags say (decided past (kept past) f t action v)) (implicit_for past f action) []) (refuse say ErrorCause.NotTrusted) (λ _.
        by_option (AllMayGo past) (λ v. tell past c salt f a details flags say (decided past (kept past) f t action v)) (implicit_for past f action) [] (λ _. tt) (λ v _. tell_goes f a details flags (decided past (kept past) f t action v))) (λ _. refused ErrorCause.NotTrusted))))

    done : AllMayGo past (reply c serial quiet Answer.Done)
    done = said Answer.Done refl

    known_goes : (subject : Subject) (follow : Facts → List Output) → ((f : Facts) → AllMayGo past (follow f)) → AllMayGo past (for_known past c subject (reply c serial quiet) follow)
    known_goes subject follow h = by_option (AllMayGo past) (λ (f : Facts). if may_for past c f.uid then follow f else refuse say ErrorCause.NotYours) (facts past subject) (refuse say ErrorCause.UnknownSubject) (λ _. refused ErrorCause.UnknownSubject) (λ f _.
        by_test (AllMayGo past) (may_for past c f.uid) (follow f) (refuse say ErrorCause.NotYours) (λ _. h f) (λ _. refused ErrorCause.NotYours))

    -- the pending checks at an agent are pending
    at_has : (key : Key) (ch : Pending) → Has (pending_at past c key) ch → Has (pending past) ch
    at_has key ch h = (filter_has (λ (ch : Pending). (ch.agent == c) && same_key ch.agent_key key) (pending past) ch h).0

    unregister_goes : (path : Bytes) (f : Facts) → AllMayGo past (option_map_or (answer_unregister past c path (reply c serial quiet) f) (agent_of f.key (in_force past)) (refuse (reply c serial quiet) ErrorCause.NoSuchAgent))
    unregister_goes path f = by_option (AllMayGo past) (answer_unregister past c path say f) (agent_of f.key (in_force past)) (refuse say ErrorCause.NoSuchAgent) (λ _. refused ErrorCause.NoSuchAgent) (λ a _.
        by_test (AllMayGo past) ((a.caller == c) && bytes_eq a.path path) (flat_map reply_agent_gone (pending_at past c f.key) ++ say Answer.Done) (refuse say ErrorCause.NoSuchAgent) (λ _. append_goes (flat_map reply_agent_gone (pending_at past c f.key)) (say Answer.Done) (flat_goes reply_agent_gone (pending_at past c f.key) (λ ch h. gone_goes ch (at_has f.key ch h))) done) (λ _. refused ErrorCause.NoSuchAgent))

    -- what is found with a cancellation id is pending
    with_id_has : (id : Bytes) (ch : Pending) → with_id past c id ≡ Some ch → Has (pending past) ch
    with_id_has id ch e = of (is_empty id) e
      where
        of : (b : Bool) → (if b then None else find (λ (ch : Pending). (ch.asker == c) && bytes_eq ch.cancel id) (pending past)) ≡ Some ch → Has (pending past) ch
        of true e = absurd (cc)
        of false e = (find_has (λ (ch : Pending). (ch.asker == c) && bytes_eq ch.cancel id) (pending past) ch e).0

    cancel_goes : (id : Bytes) (ch : Pending) → with_id past c id ≡ Some ch → AllMayGo past (answer_cancel (reply c serial quiet) ch)
    cancel_goes id ch e =
        let there = with_id_has id ch e in
        append_goes (reply_to ch (Answer.Refused ErrorCause.Cancelled) ++ cancel_begin ch) (say Answer.Done) (append_goes (reply_to ch (Answer.Refused ErrorCause.Cancelled)) (cancel_begin ch) (asker_goes ch there (Answer.Refused ErrorCause.Cancelled) refl) (agent_goes ch there)) done

    call_goes : (call : Call) → AllMayGo past (answer_call past c t salt (reply c serial quiet) call)
    call_goes (Call.Announce pid start) = by_test (AllMayGo past) (accepts_announce past c pid start) (say (Answer.Name (bus_name c))) (refuse say ErrorCause.BadAnnounce) (λ _. said (Answer.Name (bus_name c)) refl) (λ _. refused ErrorCause.BadAnnounce)
    call_goes (Call.Check subject action details flags cancel) = check_goes subject action details flags cancel
    call_goes (Call.Cancel id) = by_option (AllMayGo past) (answer_cancel say) (with_id past c id) (refuse say ErrorCause.NoSuchId) (λ _. refused ErrorCause.NoSuchId) (cancel_goes id)
    call_goes (Call.Register subject locale path) = known_goes subject (λ f. if is_some (agent_of f.key (in_force past)) then refuse say ErrorCause.AgentExists else say Answer.Done) (λ f. by_test (AllMayGo past) (is_some (agent_of f.key (in_force past))) (refuse say ErrorCause.AgentExists) (say Answer.Done) (λ _. refused ErrorCause.AgentExists) (λ _. done))
    call_goes (Call.Unregister subject path) = known_goes subject (λ f. option_map_or (answer_unregister past c path say f) (agent_of f.key (in_force past)) (refuse say ErrorCause.NoSuchAgent)) (unregister_goes path)
    call_goes (Call.Respond cookie identity) = by_test (AllMayGo past) (not (is_root past c)) (refuse say ErrorCause.NotPrivileged) (option_map_or (answer_respond identity say) (find (λ (ch : Pending). bytes_eq (cookie_text ch.cookie) cookie) (pending past)) (refuse say ErrorCause.NoSuchCookie)) (λ _. refused ErrorCause.NotPrivileged) (λ _.
        by_option (AllMayGo past) (answer_respond identity say) (find (λ (ch : Pending). bytes_eq (cookie_text ch.cookie) cookie) (pending past)) (refuse say ErrorCause.NoSuchCookie) (λ _. refused ErrorCause.NoSuchCookie) (λ ch _.
        by_test (AllMayGo past) (offers ch.identities identity) (say Answer.Done) (refuse say ErrorCause.NotOffered) (λ _. done) (λ _. refused ErrorCause.NotOffered)))
    call_goes (Call.EnumerateActions locale) = reply_goes c serial quiet (Answer.Actions (loads past) locale) lives (omega arith)
    call_goes (Call.EnumerateGrants subject) = known_goes subject (λ f. say (Answer.Grants (live_grants past t f.key))) (λ f. said (Answer.Grants (live_grants past t f.key)) refl)
    call_goes (Call.RevokeAll subject) = known_goes subject (λ f. say Answer.Done ++ (if any_of (λ g. same_key g.key f.key && is_live_at t g) (kept past) then changed past else [])) (λ f. append_goes (say Answer.Done) (if any_of (λ (g : GrantRow). same_key g.key f.key && is_live_at t g) (kept past) then changed past else []) done (by_test (AllMayGo past) (any_of (λ (g : GrantRow). same_key g.key f.key && is_live_at t g) (kept past)) (changed past) [] (λ _. changed_goes) (λ _. tt)))
    call_goes (Call.RevokeOne id) = by_option (AllMayGo past) (answer_revoke past c say) (find (λ (g : GrantRow). bytes_eq id (grant_text g.id) && is_live_at t g) (kept past)) (refuse say ErrorCause.NoSuchGrant) (λ _. refused ErrorCause.NoSuchGrant) (λ g _.
        by_test (AllMayGo past) (may_for past c (uid_of_key g.key)) (say Answer.Done ++ changed past) (refuse say ErrorCause.NotYours) (λ _. append_goes (say Answer.Done) (changed past) done changed_goes) (λ _. refused ErrorCause.NotYours))
    call_goes Call.Reload = by_test (AllMayGo past) (is_root past c) (say Answer.Done ++ record { to = 0; message = Message.LoadWanted } ∷ []) (refuse say ErrorCause.NotPrivileged) (λ _. append_goes (say Answer.Done) (record { to = 0; message = Message.LoadWanted } ∷ []) done (refl, tt)) (λ _. refused ErrorCause.NotPrivileged)
    call_goes (Call.Wrong cause) = refused cause

  return_goes : (t : ℕ) (ch : Pending) → Has (pending past) ch → AllMayGo past (answer_return past t ch)
  return_goes t ch h = told (return_verdict past (kept past) (made past) t ch)
    where
      told : (v : Verdict) → AllMayGo past (tell_return past ch v)
      told v = append_goes (reply_to ch (Answer.Verdict v)) (if is_some v.grant then changed past else []) (asker_goes ch h (Answer.Verdict v) refl) (by_test (AllMayGo past) (is_some v.grant) (changed past) [] (λ _. changed_goes) (λ _. tt))

  error_goes : (name : Bytes) (ch : Pending) → Has (pending past) ch → AllMayGo past (answer_error name ch)
  error_goes name ch h = asker_goes ch h (Answer.Verdict (no_by (if bytes_eq name cancelled_name then Reason.Dismissed else Reason.Challenge))) refl

  departed_goes : (c : ℕ) (ch : Pending) → Has (pending past) ch → AllMayGo past (answer_departed c ch)
  departed_goes c ch h = by_test (AllMayGo past) (ch.asker == c) (if ch.agent == c then [] else cancel_begin ch) (if ch.agent == c then reply_agent_gone ch else []) (λ _. by_test (AllMayGo past) (ch.agent == c) [] (cancel_begin ch) (λ _. tt) (λ _. agent_goes ch h)) (λ _. by_test (AllMayGo past) (ch.agent == c) (reply_agent_gone ch) [] (λ _. gone_goes ch h) (λ _. tt))

  loaded_goes : (world : World) (ch : Pending) → Has (pending past) ch → AllMayGo past (answer_loaded world ch)
  loaded_goes world ch h = by_test (AllMayGo past) (lists_key world ch.key) (if lists_key world ch.agent_key then [] else reply_agent_gone ch) (reply_to ch (Answer.Verdict (no_by Reason.SubjectGone)) ++ cancel_begin ch) (λ _. by_test (AllMayGo past) (lists_key world ch.agent_key) [] (reply_agent_gone ch) (λ _. tt) (λ _. gone_goes ch h)) (λ _. append_goes (reply_to ch (Answer.Verdict (no_by Reason.SubjectGone))) (cancel_begin ch) (asker_goes ch h (Answer.Verdict (no_by Reason.SubjectGone)) refl) (agent_goes ch h))

  -- the challenge that an agent's reply closes is pending
  at_agent_has : (c s : ℕ) (ch : Pending) → at_agent past c s ≡ Some ch → Has (pending past) ch
  at_agent_has c s ch e = (find_has (λ (ch : Pending). (ch.agent == c) && (ch.agent_serial == s)) (pending past) ch e).0

  -- each output of an event may go
  pub answers_go : (c t salt : ℕ) (event : Event) (loaded : Option Loaded) → AllMayGo past (answers past c t salt event loaded)
  answers_go c t salt event loaded = of event loaded
    where
      on_live : (xs : List Output) → (live past c ≡ true → AllMayGo past xs) → AllMayGo past (if live past c then xs else [])
      on_live xs h = by_test (AllMayGo past) (live past c) xs [] h (λ _. tt)

      of : (event : Event) (l : Option Loaded) → AllMayGo past (answers past c t salt event l)
      of (Called serial quiet call) l = on_live (answer_call past c t salt (reply c serial quiet) call) (λ lives. call_goes c t salt serial quiet lives call)
      of (Returned s) l = on_live (option_map_or (answer_return past t) (at_agent past c s) []) (λ _. by_option (AllMayGo past) (answer_return past t) (at_agent past c s) [] (λ _. tt) (λ ch e. return_goes t ch (at_agent_has c s ch e)))
      of (AgentError s name) l = on_live (option_map_or (answer_error name) (at_agent past c s) []) (λ _. by_option (AllMayGo past) (answer_error name) (at_agent past c s) [] (λ _. tt) (λ ch e. error_goes name ch (at_agent_has c s ch e)))
      of Depart l = on_live (flat_map (answer_departed c) (pending past)) (λ _. flat_goes (answer_departed c) (pending past) (departed_goes c))
      of (Load load) None = tt
      of (Load load) (Some l) = append_goes (flat_map (answer_loaded l.world) (pending past)) (changed past) (flat_goes (answer_loaded l.world) (pending past) (loaded_goes l.world)) changed_goes
      of Stop l = (refl, tt)
      of (Connect uid) l = tt
      of Passed l = tt
      of (LoadFailed code) l = tt
      of (Collect other) l = tt
