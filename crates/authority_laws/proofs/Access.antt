-- Each yes that an event is answered is licensed.
use Rattle.std.proofs.Common.{◌≡◌, ℕ, ◌==◌, ◌%◌, Bool, true, false, ◌&&◌, ◌||◌, not, List, [], ◌∷◌, ◌++◌, refl, inl, inr, Option, Some, None, is_some}
use Rattle.std.specs.Prelude.{if◌then◌else◌, find, bytes_eq, flat_map, nat_le}
use Rattle.std.specs.Option.{option_map_or}
use Rattle.pk_types.specs.declared.values.Pair.{Pair}
use Rattle.pk_types.specs.declared.values.Subject.{Subject}
use Rattle.pk_types.specs.declared.values.Implicit.{Implicit}
use Rattle.pk_types.specs.declared.values.Identity.{Identity}
use Rattle.authority_model.specs.declared.event.Call.{Call}
use Rattle.authority_model.specs.declared.event.Event.{Event}
use Rattle.authority_model.specs.declared.event.Event.TheVariants.{Connect, Call as Called, Returned, AgentError, Passed, Depart, Load, LoadFailed, Stop, Collect}
use Rattle.authority_model.specs.declared.message.ErrorCause.{ErrorCause}
use Rattle.authority_model.specs.declared.message.Answer.{Answer}
use Rattle.authority_model.specs.declared.message.Message.{Message}
use Rattle.authority_model.specs.declared.message.Output.{Output}
use Rattle.authority_model.specs.declared.verdict.Reason.{Reason}
use Rattle.authority_model.specs.declared.verdict.RuleSource.{RuleSource}
use Rattle.authority_model.specs.declared.policy.Action.{Action}
use Rattle.authority_model.specs.Words.{Bytes, bus_name}
use Rattle.authority_model.specs.Lists.{Each, any_of}
use Rattle.authority_model.specs.Keys.{same_key, uid_of_key}
use Rattle.authority_model.specs.Facts.{Facts, facts_of_key}
use Rattle.authority_model.specs.Worlds.{lists_key}
use Rattle.authority_model.specs.Rules.{action_of}
use Rattle.authority_model.specs.declared.journal.Item.{Item}
use Rattle.authority_model.specs.Items.{policy_of, world_of, implicit_for}
use Rattle.authority_model.specs.Subjects.{facts}
use Rattle.authority_model.specs.Peers.{live, live_connections, accepts_announce, may_for, is_root}
use Rattle.authority_model.specs.declared.pending.Agent.{Agent}
use Rattle.authority_model.specs.Agents.{agent_for, agent_of, in_force}
use Rattle.authority_model.specs.declared.verdict.GrantRow.{GrantRow}
use Rattle.authority_model.specs.declared.pending.Pending.{Pending}
use Rattle.authority_model.specs.declared.verdict.Verdict.{Verdict}
use Rattle.authority_model.specs.Challenges.{pending, at_agent, with_id, pending_beside, pending_at}
use Rattle.authority_model.specs.Cookies.{cookie_text, grant_text}
use Rattle.authority_model.specs.Grants.{kept, made}
use Rattle.authority_model.specs.declared.load.Loaded.{Loaded}
use Rattle.authority_model.specs.declared.world.World.{World}
use Rattle.authority_model.specs.Deciding.{Decision, decided, decision_of, is_live_at}
use Rattle.authority_model.specs.Verdicts.{verdict_of, no_by, offers, return_verdict, answered_verdict, redecided}
use Rattle.authority_model.specs.Answers.{loads, reply, answers, answer_call, answer_check, tell, tell_challenge, changed, answer_return, answer_error, tell_return, answer_departed, answer_loaded, for_known, reply_agent_gone, ask, refuse, answer_for, answer_known, answer_unregister, cancelled_name, cancel_begin, reply_to, answer_cancel, answer_respond, answer_revoke, live_grants}
use Rattle.authority_model.specs.Trust.{trusted}
use Rattle.authority_model.specs.Licensed.{Permits, ByCheck, ByReturn, IsYesLicensed}
use Rattle.authority_model.proofs.Cases.{by_test, by_option, Each-append, Each-map}
use Rattle.authority_laws.proofs.Deciding.{Backed, decided_backed, backed_verdict}
use Rattle.authority_laws.proofs.Returning.{PermitsNow, redecided_backed}

-- each yes among these outputs of an item is licensed
abbrev pub Good : List Item → Item → List Output → Type 0
Good past i outputs = Each (λ o. IsYesLicensed past i o.to o.message) outputs

module _ (past : List Item) (i : Item) where
  reply_good : (c serial : ℕ) (quiet : Bool) (a : Answer) → IsYesLicensed past i c (Message.Reply serial a) → Good past i (reply c serial quiet a)
  reply_good c serial quiet a h = by_test (Good past i) (quiet || (serial == 0)) [] _ (λ _. tt) (λ _. (h, tt))

  changed_good : Good past i (changed past)
  changed_good = Each-map (λ o. IsYesLicensed past i o.to o.message) _ (live_connections past) (λ c. tt)

  flat_good : {A : Type 0} (f : A → List Output) → ((x : A) → Good past i (f x)) → (xs : List A) → Good past i (flat_map f xs)
  flat_good f h [] = tt
  flat_good f h (x ∷ xs) = Each-append (λ o. IsYesLicensed past i o.to o.message) (f x) (flat_map f xs) (h x) (flat_good f h xs)

  tell_good : (serial : ℕ) (quiet : Bool) (subject : Subject) (action : Bytes) (details : List Pair) (flags : ℕ) (cancel : Bytes) (f : Facts) (a : Action) (salt : ℕ)
      → i.entry.event ≡ Called serial quiet (Call.Check subject action details flags cancel) → facts past subject ≡ Some f
      → (d : Decision) → Backed past f action i.entry.moment d
      → Good past i (tell past i.entry.caller salt f a details flags (reply i.entry.caller serial quiet) d)
  tell_good serial quiet subject action details flags cancel f a salt is known = of
    where
      licensed : (reason : Reason) → Permits past f action i.entry.moment reason → ByCheck past i i.entry.caller serial reason
      licensed reason permits = record {
        subject = subject;
        action = action;
        f = f;
        check = record { caller = refl; quiet = quiet; details = details; flags = flags; cancel = cancel; event = is };
        facts_are = known;
        permits = permits;
      }

      said : (answer : Answer) → IsYesLicensed past i i.entry.caller (Message.Reply serial answer) → Good past i (reply i.entry.caller serial quiet answer)
      said answer h = reply_good i.entry.caller serial quiet answer h

      told : (d : Decision) → Backed past f action i.entry.moment d → Good past i (reply i.entry.caller serial quiet (Answer.Verdict (verdict_of past d)))
      told d h = said (Answer.Verdict (verdict_of past d)) (λ ok. inl (licensed (verdict_of past d).reason (backed_verdict past f action i.entry.moment d h ok)))

      of_challenge : (value : Implicit) (source : RuleSource) → Backed past f action i.entry.moment (Decision.Challenge value source) → (b : Bool) (o : Option Agent) → Good past i (tell_challenge past i.entry.caller salt f a details (reply i.entry.caller serial quiet) value source b o)
      of_challenge value source h true (Some agent) = by_test (Good past i) (nat_le 64 (pending_beside past i.entry.caller)) (reply i.entry.caller serial quiet (Answer.Refused ErrorCause.TooManyPending)) (ask past salt f agent a value details) (λ _. said (Answer.Refused ErrorCause.TooManyPending) tt) (λ _. (tt, tt))
      of_challenge value source h true None = told (Decision.Challenge value source) h
      of_challenge value source h false o = told (Decision.Challenge value source) h

      of : (d : Decision) → Backed past f action i.entry.moment d → Good past i (tell past i.entry.caller salt f a details flags (reply i.entry.caller serial quiet) d)
      of Decision.Root h = told Decision.Root h
      of (Decision.Yes source) h = told (Decision.Yes source) h
      of (Decision.Granted g) h = told (Decision.Granted g) h
      of (Decision.Imply b) h = told (Decision.Imply b) h
      of (Decision.Challenge value source) h = of_challenge value source h (flags % 2 == 1) (agent_for past f)
      of (Decision.No source) h = told (Decision.No source) h

  check_good : (serial : ℕ) (quiet : Bool) (subject : Subject) (action : Bytes) (details : List Pair) (flags : ℕ) (cancel : Bytes)
      → i.entry.event ≡ Called serial quiet (Call.Check subject action details flags cancel)
      → Good past i (answer_check past i.entry.caller i.entry.moment i.entry.salt subject action details flags cancel (reply i.entry.caller serial quiet))
  check_good serial quiet subject action details flags cancel is =
      by_test (Good past i) (is_some (with_id past c cancel)) (refuse say ErrorCause.IdInUse) (option_map_or (answer_known past c t salt subject action details flags say) (action_of (policy_of past) action) (refuse say ErrorCause.UnknownAction)) (λ _. refused ErrorCause.IdInUse) (λ _.
      by_option (Good past i) (answer_known past c t salt subject action details flags say) (action_of (policy_of past) action) (refuse say ErrorCause.UnknownAction) (λ _. refused ErrorCause.UnknownAction) (λ a _.
      by_option (Good past i) (answer_for past c t salt action details flags say a) (facts past subject) (refuse say ErrorCause.UnknownSubject) (λ _. refused ErrorCause.UnknownSubject) (λ f known.
      by_test (Good past i) (trusted past c f details action) (option_map_or (λ v. tell past c salt f a details flags say (decided past (kept past) f t action v)) (implicit_for past f action) []) (refuse say ErrorCause.NotTrusted) (λ _.
      by_option (Good past i) (λ v. tell past c salt f a details flags say (decided past (kept past) f t action v)) (implicit_for past f action) [] (λ _. tt) (λ v value.
      tell_good serial quiet subject action details flags cancel f a salt is known (decided past (kept past) f t action v) (decided_backed past f t action v value))) (λ _. refused ErrorCause.NotTrusted))))
    where
      c : ℕ
      c = i.entry.caller

      t : ℕ
      t = i.entry.moment

      salt : ℕ
      salt = i.entry.salt

      say : Answer → List Output
      say = reply i.entry.caller serial quiet

      refused : (cause : ErrorCause) → Good past i (reply i.entry.caller serial quiet (Answer.Refused cause))
      refused cause = reply_good i.entry.caller serial quiet (Answer.Refused cause) tt

  gone_good : (ch : Pending) → Good past i (reply_agent_gone ch)
  gone_good ch = reply_good ch.asker ch.serial ch.quiet (Answer.Verdict (no_by Reason.AgentGone)) (λ e. absurd (cc))

  append_good : (xs ys : List Output) → Good past i xs → Good past i ys → Good past i (xs ++ ys)
  append_good xs ys h k = Each-append (λ o. IsYesLicensed past i o.to o.message) xs ys h k

  call_good : (serial : ℕ) (quiet : Bool) (call : Call) → i.entry.event ≡ Called serial quiet call
      → Good past i (answer_call past i.entry.caller i.entry.moment i.entry.salt (reply i.entry.caller serial quiet) call)
  call_good serial quiet call is = of call is
    where
      c : ℕ
      c = i.entry.caller

      t : ℕ
      t = i.entry.moment

      say : Answer → List Output
      say = reply i.entry.caller serial quiet

      refused : (cause : ErrorCause) → Good past i (refuse say cause)
      refused cause = reply_good i.entry.caller serial quiet (Answer.Refused cause) tt

      done : Good past i (say Answer.Done)
      done = reply_good i.entry.caller serial quiet Answer.Done tt

      known_good : (subject : Subject) (next : Facts → List Output) → ((f : Facts) → Good past i (next f)) → Good past i (for_known past c subject say next)
      known_good subject next h = by_option (Good past i) (λ (f : Facts). if may_for past c f.uid then next f else refuse say ErrorCause.NotYours) (facts past subject) (refuse say ErrorCause.UnknownSubject) (λ _. refused ErrorCause.UnknownSubject) (λ f _.
          by_test (Good past i) (may_for past c f.uid) (next f) (refuse say ErrorCause.NotYours) (λ _. h f) (λ _. refused ErrorCause.NotYours))

      unregister_good : (path : Bytes) (f : Facts) → Good past i (option_map_or (answer_unregister past c path say f) (agent_of f.key (in_force past)) (refuse say ErrorCause.NoSuchAgent))
      unregister_good path f = by_option (Good past i) (answer_unregister past c path say f) (agent_of f.key (in_force past)) (refuse say ErrorCause.NoSuchAgent) (λ _. refused ErrorCause.NoSuchAgent) (λ a _.
          by_test (Good past i) ((a.caller == c) && bytes_eq a.path path) (flat_map reply_agent_gone (pending_at past c f.key) ++ say Answer.Done) (refuse say ErrorCause.NoSuchAgent) (λ _. append_good (flat_map reply_agent_gone (pending_at past c f.key)) (say Answer.Done) (flat_good reply_agent_gone gone_good (pending_at past c f.key)) done) (λ _. refused ErrorCause.NoSuchAgent))

      of : (call : Call) → i.entry.event ≡ Called serial quiet call → Good past i (answer_call past i.entry.caller i.entry.moment i.entry.salt (reply i.entry.caller serial quiet) call)
      of (Call.Announce pid start) is = by_test (Good past i) (accepts_announce past c pid start) (say (Answer.Name (bus_name c))) (refuse say ErrorCause.BadAnnounce) (λ _. reply_good i.entry.caller serial quiet (Answer.Name (bus_name c)) tt) (λ _. refused ErrorCause.BadAnnounce)
      of (Call.Check subject action details flags cancel) is = check_good serial quiet subject action details flags cancel is
      of (Call.Cancel id) is = by_option (Good past i) (answer_cancel say) (with_id past c id) (refuse say ErrorCause.NoSuchId) (λ _. refused ErrorCause.NoSuchId) (λ ch _.
          append_good (reply_to ch (Answer.Refused ErrorCause.Cancelled) ++ cancel_begin ch) (say Answer.Done) (append_good (reply_to ch (Answer.Refused ErrorCause.Cancelled)) (cancel_begin ch) (reply_good ch.asker ch.serial ch.quiet (Answer.Refused ErrorCause.Cancelled) tt) (tt, tt)) done)
      of (Call.Register subject locale path) is = known_good subject (λ f. if is_some (agent_of f.key (in_force past)) then refuse say ErrorCause.AgentExists else say Answer.Done) (λ f. by_test (Good past i) (is_some (agent_of f.key (in_force past))) (refuse say ErrorCause.AgentExists) (say Answer.Done) (λ _. refused ErrorCause.AgentExists) (λ _. done))
      of (Call.Unregister subject path) is = known_good subject (λ f. option_map_or (answer_unregister past c path say f) (agent_of f.key (in_force past)) (refuse say ErrorCause.NoSuchAgent)) (unregister_good path)
      of (Call.Respond cookie identity) is = by_test (Good past i) (not (is_root past c)) (refuse say ErrorCause.NotPrivileged) (option_map_or (answer_respond identity say) (find (λ (ch : Pending). bytes_eq (cookie_text ch.cookie) cookie) (pending past)) (refuse say ErrorCause.NoSuchCookie)) (λ _. refused ErrorCause.NotPrivileged) (λ _.
          by_option (Good past i) (answer_respond identity say) (find (λ (ch : Pending). bytes_eq (cookie_text ch.cookie) cookie) (pending past)) (refuse say ErrorCause.NoSuchCookie) (λ _. refused ErrorCause.NoSuchCookie) (λ ch _.
          by_test (Good past i) (offers ch.identities identity) (say Answer.Done) (refuse say ErrorCause.NotOffered) (λ _. done) (λ _. refused ErrorCause.NotOffered)))
      of (Call.EnumerateActions locale) is = reply_good i.entry.caller serial quiet (Answer.Actions (loads past) locale) tt
      of (Call.EnumerateGrants subject) is = known_good subject (λ f. say (Answer.Grants (live_grants past t f.key))) (λ f. reply_good i.entry.caller serial quiet (Answer.Grants (live_grants past t f.key)) tt)
      of (Call.RevokeAll subject) is = known_good subject (λ f. say Answer.Done ++ (if any_of (λ g. same_key g.key f.key && is_live_at t g) (kept past) then changed past else [])) (λ f. append_good (say Answer.Done) (if any_of (λ (g : GrantRow). same_key g.key f.key && is_live_at t g) (kept past) then changed past else []) done (by_test (Good past i) (any_of (λ (g : GrantRow). same_key g.key f.key && is_live_at t g) (kept past)) (changed past) [] (λ _. changed_good) (λ _. tt)))
      of (Call.RevokeOne id) is = by_option (Good past i) (answer_revoke past c say) (find (λ (g : GrantRow). bytes_eq id (grant_text g.id) && is_live_at t g) (kept past)) (refuse say ErrorCause.NoSuchGrant) (λ _. refused ErrorCause.NoSuchGrant) (λ g _.
          by_test (Good past i) (may_for past c (uid_of_key g.key)) (say Answer.Done ++ changed past) (refuse say ErrorCause.NotYours) (λ _. append_good (say Answer.Done) (changed past) done changed_good) (λ _. refused ErrorCause.NotYours))
      of Call.Reload is = by_test (Good past i) (is_root past c) (say Answer.Done ++ record { to = 0; message = Message.LoadWanted } ∷ []) (refuse say ErrorCause.NotPrivileged) (λ _. append_good (say Answer.Done) (record { to = 0; message = Message.LoadWanted } ∷ []) done (tt, tt)) (λ _. refused ErrorCause.NotPrivileged)
      of (Call.Wrong cause) is = refused cause

  -- what a return needs: the challenge that it ends was answered as it should be
  module _ (returned : (s : ℕ) → i.entry.event ≡ Returned s → (ch : Pending) → at_agent past i.entry.caller s ≡ Some ch → (id : Identity) → ch.answered ≡ Some id → (f : Facts) → facts_of_key (world_of past) ch.key ≡ Some f → (reason : Reason) → PermitsNow past f ch.action i.entry.moment id reason → ByReturn past i ch.asker ch.serial reason) where
    pub event_good : (event : Event) → i.entry.event ≡ event → Good past i (answers past i.entry.caller i.entry.moment i.entry.salt event i.loaded)
    event_good event is = of event is i.loaded
      where
        on_live : (xs : List Output) → Good past i xs → Good past i (if live past i.entry.caller then xs else [])
        on_live xs h = by_test (Good past i) (live past i.entry.caller) xs [] (λ _. h) (λ _. tt)

        return_good : (s : ℕ) → i.entry.event ≡ Returned s → (ch : Pending) → at_agent past i.entry.caller s ≡ Some ch → Good past i (answer_return past i.entry.moment ch)
        return_good s is ch at = told (return_verdict past (kept past) (made past) i.entry.moment ch) (by_option (Yes ch) (answered_verdict past (kept past) (made past) i.entry.moment ch) ch.answered (no_by Reason.Challenge) (λ _ e. absurd (cc)) (λ id answered.
            by_option (Yes ch) (redecided past (made past) ch.key id) (decision_of past (kept past) i.entry.moment ch.key ch.action) (no_by Reason.ActionGone) (λ _ e. absurd (cc)) (λ d decides ok.
            let now = redecided_backed past (made past) i.entry.moment ch.key ch.action id d decides ok in
            returned s is ch at id answered now.0 now.1 (redecided past (made past) ch.key id d).reason now.2)))
          where
            Yes : Pending → Verdict → Type 0
            Yes ch v = v.yes ≡ true → ByReturn past i ch.asker ch.serial v.reason

            told : (v : Verdict) → (v.yes ≡ true → ByReturn past i ch.asker ch.serial v.reason) → Good past i (tell_return past ch v)
            told v h = append_good (reply_to ch (Answer.Verdict v)) (if is_some v.grant then changed past else []) (reply_good ch.asker ch.serial ch.quiet (Answer.Verdict v) (λ ok. inr (h ok))) (by_test (Good past i) (is_some v.grant) (changed past) [] (λ _. changed_good) (λ _. tt))

        departed_good : (ch : Pending) → Good past i (answer_departed i.entry.caller ch)
        departed_good ch = by_test (Good past i) (ch.asker == i.entry.caller) (if ch.agent == i.entry.caller then [] else cancel_begin ch) (if ch.agent == i.entry.caller then reply_agent_gone ch else []) (λ _. by_test (Good past i) (ch.agent == i.entry.caller) [] (cancel_begin ch) (λ _. tt) (λ _. (tt, tt))) (λ _. by_test (Good past i) (ch.agent == i.entry.caller) (reply_agent_gone ch) [] (λ _. gone_good ch) (λ _. tt))

        loaded_good : (world : World) (ch : Pending) → Good past i (answer_loaded world ch)
        loaded_good world ch = by_test (Good past i) (lists_key world ch.key) (if lists_key world ch.agent_key then [] else reply_agent_gone ch) (reply_to ch (Answer.Verdict (no_by Reason.SubjectGone)) ++ cancel_begin ch) (λ _. by_test (Good past i) (lists_key world ch.agent_key) [] (reply_agent_gone ch) (λ _. tt) (λ _. gone_good ch)) (λ _. append_good (reply_to ch (Answer.Verdict (no_by Reason.SubjectGone))) (cancel_begin ch) (reply_good ch.asker ch.serial ch.quiet (Answer.Verdict (no_by Reason.SubjectGone)) (λ e. absurd (cc))) (tt, tt))

        of : (event : Event) → i.entry.event ≡ event → (l : Option Loaded) → Good past i (answers past i.entry.caller i.entry.moment i.entry.salt event l)
        of (Called serial quiet call) is l = on_live (answer_call past i.entry.caller i.entry.moment i.entry.salt (reply i.entry.caller serial quiet) call) (call_good serial quiet call is)
        of (Returned s) is l = on_live (option_map_or (answer_return past i.entry.moment) (at_agent past i.entry.caller s) []) (by_option (Good past i) (answer_return past i.entry.moment) (at_agent past i.entry.caller s) [] (λ _. tt) (return_good s is))
        of (AgentError s name) is l = on_live (option_map_or (answer_error name) (at_agent past i.entry.caller s) []) (by_option (Good past i) (answer_error name) (at_agent past i.entry.caller s) [] (λ _. tt) (λ ch _. reply_good ch.asker ch.serial ch.quiet (Answer.Verdict (no_by (if bytes_eq name cancelled_name then Reason.Dismissed else Reason.Challenge))) (λ e. absurd (cc))))
        of Depart is l = on_live (flat_map (answer_departed i.entry.caller) (pending past)) (flat_good (answer_departed i.entry.caller) departed_good (pending past))
        of (Load load) is None = tt
        of (Load load) is (Some l) = append_good (flat_map (answer_loaded l.world) (pending past)) (changed past) (flat_good (answer_loaded l.world) (loaded_good l.world) (pending past)) changed_good
        of Stop is l = (tt, tt)
        of (Connect uid) is l = tt
        of Passed is l = tt
        of (LoadFailed code) is l = tt
        of (Collect other) is l = tt
