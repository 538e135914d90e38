-- One item has few outputs: at most three for each item before it, and three.
use Rattle.std.proofs.Common.{◌≡◌, ℕ, suc, ◌+◌, ◌*◌, ◌^◌, ◌<◌, ◌≤◌, ◌==◌, Bool, true, false, ◌&&◌, ◌||◌, not, List, [], ◌∷◌, ◌++◌, Option, Some, None, is_some, ap, length, arith}
use Rattle.std.proofs.lemmas.Bool.Decides.{nat_tests}
use Rattle.std.proofs.lemmas.List.{length-append, length-map}
use Rattle.std.specs.Prelude.{if◌then◌else◌, find, bytes_eq, filter, flat_map, map, nat_le, nat_lt, option_to_list}
use Rattle.std.specs.Option.{option_map_or}
use Rattle.pk_types.specs.declared.values.Identity.{Identity}
use Rattle.pk_types.specs.declared.values.Pair.{Pair}
use Rattle.pk_types.specs.declared.values.Subject.{Subject}
use Rattle.pk_types.specs.declared.values.Implicit.{Implicit}
use Rattle.authority_model.specs.declared.event.Call.{Call}
use Rattle.authority_model.specs.declared.event.Event.{Event}
use Rattle.authority_model.specs.declared.event.Event.TheVariants.{Connect, Call as Called, Returned, AgentError, Passed, Depart, Load, LoadFailed, Stop, Collect}
use Rattle.authority_model.specs.declared.journal.Item.{Item}
use Rattle.authority_model.specs.declared.journal.Limits.{Limits}
use Rattle.authority_model.specs.declared.key.Key.{Key}
use Rattle.authority_model.specs.declared.load.Loaded.{Loaded}
use Rattle.authority_model.specs.declared.message.Answer.{Answer}
use Rattle.authority_model.specs.declared.message.ErrorCause.{ErrorCause}
use Rattle.authority_model.specs.declared.message.Message.{Message}
use Rattle.authority_model.specs.declared.message.Output.{Output}
use Rattle.authority_model.specs.declared.pending.Agent.{Agent}
use Rattle.authority_model.specs.declared.pending.Pending.{Pending}
use Rattle.authority_model.specs.declared.pending.TheConstants.{MAX_PENDING}
use Rattle.authority_model.specs.declared.policy.Action.{Action}
use Rattle.authority_model.specs.declared.verdict.GrantRow.{GrantRow}
use Rattle.authority_model.specs.declared.verdict.Reason.{Reason}
use Rattle.authority_model.specs.declared.verdict.RuleSource.{RuleSource}
use Rattle.authority_model.specs.declared.verdict.Verdict.{Verdict}
use Rattle.authority_model.specs.declared.world.World.{World}
use Rattle.authority_model.specs.Agents.{agent_for, agent_of, in_force}
use Rattle.authority_model.specs.Answers.{loads, reply, answers, answer_call, answer_check, answer_known, tell, tell_challenge, changed, answer_return, answer_error, tell_return, answer_departed, answer_loaded, for_known, reply_agent_gone, ask, refuse, answer_for, answer_unregister, cancel_begin, reply_to, answer_cancel, answer_respond, answer_revoke, live_grants}
use Rattle.authority_model.specs.Challenges.{opened, closes, with_answer, pending, at_agent, with_id, pending_beside, pending_at}
use Rattle.authority_model.specs.Cookies.{cookie_text, grant_text}
use Rattle.authority_model.specs.Deciding.{Decision, decided, is_live_at}
use Rattle.authority_model.specs.Entering.{AreAllowed, counted_bytes, is_full}
use Rattle.authority_model.specs.Facts.{Facts}
use Rattle.authority_model.specs.Grants.{kept, made}
use Rattle.authority_model.specs.Interaction.{allows_interaction}
use Rattle.authority_model.specs.Items.{sent, policy_of, implicit_for}
use Rattle.authority_model.specs.Keys.{same_key, uid_of_key}
use Rattle.authority_model.specs.Legal.{Legal}
use Rattle.authority_model.specs.Lists.{any_of}
use Rattle.authority_model.specs.Peers.{uid_given, live, connected, live_connections, insert_rising, accepts_announce, may_for, is_root}
use Rattle.authority_model.specs.Rules.{action_of}
use Rattle.authority_model.specs.Subjects.{facts}
use Rattle.authority_model.specs.Trust.{trusted}
use Rattle.authority_model.specs.Verdicts.{no_by, offers, return_verdict, verdict_of}
use Rattle.authority_model.specs.Words.{Bytes, bus_name}
use Rattle.authority_model.specs.Worlds.{lists_key}
use Rattle.authority_model.proofs.Cases.{by_test, by_option}
use Rattle.authority_laws.proofs.Batching.{count_few, sent_few}
use Rattle.authority_laws.proofs.Standing.{neither}

filter_few : {A : Type 0} (test : A → Bool) (xs : List A) → length (filter test xs) ≤ length xs
filter_few test [] = omega arith
filter_few {A} test (x ∷ xs) = let rest = filter_few test xs in by_test (λ (ys : List A). length ys ≤ suc (length xs)) (test x) (x ∷ filter test xs) (filter test xs) (λ _. omega (arith, rest)) (λ _. omega (arith, rest))

-- who connected, and what was opened, took an item each
insert_few : (n : ℕ) (ns : List ℕ) → length (insert_rising n ns) ≤ length ns + 1
insert_few n [] = omega arith
insert_few n (m ∷ ms) =
    let rest = insert_few n ms in
    by_test (λ (ks : List ℕ). length ks ≤ suc (length ms) + 1) (nat_lt n m) (n ∷ m ∷ ms) (if n == m then m ∷ ms else m ∷ insert_rising n ms) (λ _. omega arith)
    (λ _. by_test (λ (ks : List ℕ). length ks ≤ suc (length ms) + 1) (n == m) (m ∷ ms) (m ∷ insert_rising n ms) (λ _. omega arith) (λ _. omega (arith, rest)))

connected_few : (past : List Item) → length (connected past) ≤ length past
connected_few [] = omega arith
connected_few (i ∷ past) =
    let rest = connected_few past in
    let more = insert_few i.entry.caller (connected past) in
    by_test (λ (ks : List ℕ). length ks ≤ suc (length past)) (is_some (uid_given i.entry.event)) (insert_rising i.entry.caller (connected past)) (connected past) (λ _. omega (arith, rest, more)) (λ _. omega (arith, rest))

option_few : {A : Type 0} (o : Option A) → length (option_to_list o) ≤ 1
option_few None = omega arith
option_few (Some x) = omega arith

pending_few : (past : List Item) → length (pending past) ≤ length past
pending_few [] = omega arith
pending_few (i ∷ past) =
    let left = filter (λ ch. not (closes past ch i)) (pending past) in
    let both = length-append (map (with_answer past i) left) (option_to_list (opened past i)) in
    let same = length-map left (with_answer past i) in
    let fewer = filter_few (λ ch. not (closes past ch i)) (pending past) in
    let rest = pending_few past in
    let one = option_few (opened past i) in
    omega (arith, both, same, fewer, rest, one)

-- one output for each live connection
changed_few : (past : List Item) → length (changed past) ≤ length past
changed_few past =
    let same = length-map {B = Output} (live_connections past) (λ c. record { to = c; message = Message.Changed }) in
    let fewer = filter_few (live past) (connected past) in
    let rest = connected_few past in
    omega (arith, same, fewer, rest)

-- at most n outputs for each
flat_few : {A : Type 0} (f : A → List Output) (n : ℕ) (xs : List A) → ((x : A) → length (f x) ≤ n) → length (flat_map f xs) ≤ n * length xs
flat_few f n [] each = omega arith
flat_few f n (x ∷ xs) each =
    let both = length-append (f x) (flat_map f xs) in
    let first = each x in
    let rest = flat_few f n xs each in
    omega (arith, both, first, rest)

reply_few : (c serial : ℕ) (quiet : Bool) (answer : Answer) → length (reply c serial quiet answer) ≤ 1
reply_few c serial quiet answer = by_test (λ (os : List Output). length os ≤ 1) (quiet || (serial == 0)) [] (record { to = c; message = Message.Reply serial answer } ∷ []) (λ _. omega arith) (λ _. omega arith)

-- what is told about one pending check
gone_few : (ch : Pending) → length (reply_agent_gone ch) ≤ 1
gone_few ch = reply_few ch.asker ch.serial ch.quiet _

departed_few : (c : ℕ) (ch : Pending) → length (answer_departed c ch) ≤ 2
departed_few c ch =
    let gone = gone_few ch in
    by_test (λ (os : List Output). length os ≤ 2) (ch.asker == c) (if ch.agent == c then [] else cancel_begin ch) (if ch.agent == c then reply_agent_gone ch else [])
    (λ _. by_test (λ (os : List Output). length os ≤ 2) (ch.agent == c) [] (cancel_begin ch) (λ _. omega arith) (λ _. omega arith))
    (λ _. by_test (λ (os : List Output). length os ≤ 2) (ch.agent == c) (reply_agent_gone ch) [] (λ _. omega (arith, gone)) (λ _. omega arith))

loaded_few : (world : World) (ch : Pending) → length (answer_loaded world ch) ≤ 2
loaded_few world ch =
    let gone = gone_few ch in
    let lost = Answer.Verdict (no_by Reason.SubjectGone) in
    let both = length-append (reply_to ch lost) (cancel_begin ch) in
    let told = reply_few ch.asker ch.serial ch.quiet lost in
    by_test (λ (os : List Output). length os ≤ 2) (lists_key world ch.key) (if lists_key world ch.agent_key then [] else reply_agent_gone ch) (reply_to ch lost ++ cancel_begin ch)
    (λ _. by_test (λ (os : List Output). length os ≤ 2) (lists_key world ch.agent_key) [] (reply_agent_gone ch) (λ _. omega arith) (λ _. omega (arith, gone)))
    (λ _. omega (arith, both, told))

-- few outputs behind some items
abbrev Few : List Item → List Output → Type 0
Few past outputs = length outputs ≤ 3 * length past + 3

one_few : (past : List Item) (outputs : List Output) → length outputs ≤ 1 → Few past outputs
one_few past outputs one = omega (arith, one)

-- the answer to a call, said by one output at most
module _ (past : List Item) (c t salt : ℕ) (say : Answer → List Output) (one : (answer : Answer) → length (say answer) ≤ 1) where
  said : (answer : Answer) → Few past (say answer)
  said answer = one_few past (say answer) (one answer)

  refused : (cause : ErrorCause) → Few past (say (Answer.Refused cause))
  refused cause = said (Answer.Refused cause)

  -- Changed to all beside an answer
  with_changed : Few past (say Answer.Done ++ changed past)
  with_changed = let both = length-append (say Answer.Done) (changed past) in let done = one Answer.Done in let rest = changed_few past in omega (arith, both, done, rest)

  tell_few : (f : Facts) (a : Action) (details : List Pair) (flags : ℕ) (d : Decision) → Few past (tell past c salt f a details flags say d)
  tell_few f a details flags = of
    where
      told : (d : Decision) → Few past (say (Answer.Verdict (verdict_of past d)))
      told d = said (Answer.Verdict (verdict_of past d))

      of_challenge : (value : Implicit) (source : RuleSource) (b : Bool) (o : Option Agent) → Few past (tell_challenge past c salt f a details say value source b o)
      of_challenge value source true (Some agent) = by_test (Few past) (nat_le MAX_PENDING (pending_beside past c)) (say (Answer.Refused ErrorCause.TooManyPending)) (ask past salt f agent a value details) (λ _. refused ErrorCause.TooManyPending) (λ _. one_few past (ask past salt f agent a value details) (omega arith))
      of_challenge value source true None = told (Decision.Challenge value source)
      of_challenge value source false o = told (Decision.Challenge value source)

      of : (d : Decision) → Few past (tell past c salt f a details flags say d)
      of Decision.Root = told Decision.Root
      of (Decision.Yes source) = told (Decision.Yes source)
      of (Decision.Granted g) = told (Decision.Granted g)
      of (Decision.Imply b) = told (Decision.Imply b)
      of (Decision.Challenge value source) = of_challenge value source (allows_interaction flags) (agent_for past f)
      of (Decision.No source) = told (Decision.No source)

  check_few : (subject : Subject) (action : Bytes) (details : List Pair) (flags : ℕ) (cancel : Bytes) → Few past (answer_check past c t salt subject action details flags cancel say)
  check_few subject action details flags cancel =
      by_test (Few past) (is_some (with_id past c cancel)) (refuse say ErrorCause.IdInUse) (option_map_or (answer_known past c t salt subject action details flags say) (action_of (policy_of past) action) (refuse say ErrorCause.UnknownAction)) (λ _. refused ErrorCause.IdInUse) (λ _.
      by_option (Few past) (answer_known past c t salt subject action details flags say) (action_of (policy_of past) action) (refuse say ErrorCause.UnknownAction) (λ _. refused ErrorCause.UnknownAction) (λ a _.
      by_option (Few past) (answer_for past c t salt action details flags say a) (facts past subject) (refuse say ErrorCause.UnknownSubject) (λ _. refused ErrorCause.UnknownSubject) (λ f _.
      by_test (Few past) (trusted past c f details action) (option_map_or (λ v. tell past c salt f a details flags say (decided past (kept past) f t action v)) (implicit_for past f action) []) (refuse say ErrorCause.NotTrusted) (λ _.
      by_option (Few past) (λ v. tell past c salt f a details flags say (decided past (kept past) f t action v)) (implicit_for past f action) [] (λ _. omega arith) (λ v _. tell_few f a details flags (decided past (kept past) f t action v))) (λ _. refused ErrorCause.NotTrusted))))

  known_few : (subject : Subject) (follow : Facts → List Output) → ((f : Facts) → Few past (follow f)) → Few past (for_known past c subject say follow)
  known_few subject follow h = by_option (Few past) (λ (f : Facts). if may_for past c f.uid then follow f else refuse say ErrorCause.NotYours) (facts past subject) (refuse say ErrorCause.UnknownSubject) (λ _. refused ErrorCause.UnknownSubject) (λ f _.
      by_test (Few past) (may_for past c f.uid) (follow f) (refuse say ErrorCause.NotYours) (λ _. h f) (λ _. refused ErrorCause.NotYours))

  ended_few : (key : Key) → Few past (flat_map reply_agent_gone (pending_at past c key) ++ say Answer.Done)
  ended_few key =
      let at = pending_at past c key in
      let both = length-append (flat_map reply_agent_gone at) (say Answer.Done) in
      let each = flat_few reply_agent_gone 1 at gone_few in
      let fewer = filter_few (λ (ch : Pending). (ch.agent == c) && same_key ch.agent_key key) (pending past) in
      let rest = pending_few past in
      let done = one Answer.Done in
      omega (arith, both, each, fewer, rest, done)

  unregister_few : (path : Bytes) (f : Facts) → Few past (option_map_or (answer_unregister past c path say f) (agent_of f.key (in_force past)) (refuse say ErrorCause.NoSuchAgent))
  unregister_few path f = by_option (Few past) (answer_unregister past c path say f) (agent_of f.key (in_force past)) (refuse say ErrorCause.NoSuchAgent) (λ _. refused ErrorCause.NoSuchAgent) (λ a _.
      by_test (Few past) ((a.caller == c) && bytes_eq a.path path) (flat_map reply_agent_gone (pending_at past c f.key) ++ say Answer.Done) (refuse say ErrorCause.NoSuchAgent) (λ _. ended_few f.key) (λ _. refused ErrorCause.NoSuchAgent))

  cancel_few : (ch : Pending) → Few past (answer_cancel say ch)
  cancel_few ch =
      let told = reply_to ch (Answer.Refused ErrorCause.Cancelled) in
      let first = length-append told (cancel_begin ch) in
      let both = length-append (told ++ cancel_begin ch) (say Answer.Done) in
      let own = reply_few ch.asker ch.serial ch.quiet (Answer.Refused ErrorCause.Cancelled) in
      let done = one Answer.Done in
      omega (arith, first, both, own, done)

  respond_few : (identity : Identity) (ch : Pending) → Few past (answer_respond identity say ch)
  respond_few identity ch = by_test (Few past) (offers ch.identities identity) (say Answer.Done) (refuse say ErrorCause.NotOffered) (λ _. said Answer.Done) (λ _. refused ErrorCause.NotOffered)

  revoke_few : (g : GrantRow) → Few past (answer_revoke past c say g)
  revoke_few g = by_test (Few past) (may_for past c (uid_of_key g.key)) (say Answer.Done ++ changed past) (refuse say ErrorCause.NotYours) (λ _. with_changed) (λ _. refused ErrorCause.NotYours)

  -- Changed to all, where a test passes
  maybe_changed : (b : Bool) → Few past (say Answer.Done ++ (if b then changed past else []))
  maybe_changed true = with_changed
  maybe_changed false = let both = length-append (say Answer.Done) [] in let done = one Answer.Done in omega (arith, both, done)

  reload_few : Few past (say Answer.Done ++ record { to = 0; message = Message.LoadWanted } ∷ [])
  reload_few = let both = length-append (say Answer.Done) (record { to = 0; message = Message.LoadWanted } ∷ []) in let done = one Answer.Done in omega (arith, both, done)

  call_few : (call : Call) → Few past (answer_call past c t salt say call)
  call_few (Call.Announce pid start) = by_test (Few past) (accepts_announce past c pid start) (say (Answer.Name (bus_name c))) (refuse say ErrorCause.BadAnnounce) (λ _. said (Answer.Name (bus_name c))) (λ _. refused ErrorCause.BadAnnounce)
  call_few (Call.Check subject action details flags cancel) = check_few subject action details flags cancel
  call_few (Call.Cancel id) = by_option (Few past) (answer_cancel say) (with_id past c id) (refuse say ErrorCause.NoSuchId) (λ _. refused ErrorCause.NoSuchId) (λ ch _. cancel_few ch)
  call_few (Call.Register subject locale path) = known_few subject (λ f. if is_some (agent_of f.key (in_force past)) then refuse say ErrorCause.AgentExists else say Answer.Done) (λ f. by_test (Few past) (is_some (agent_of f.key (in_force past))) (refuse say ErrorCause.AgentExists) (say Answer.Done) (λ _. refused ErrorCause.AgentExists) (λ _. said Answer.Done))
  call_few (Call.Unregister subject path) = known_few subject (λ f. option_map_or (answer_unregister past c path say f) (agent_of f.key (in_force past)) (refuse say ErrorCause.NoSuchAgent)) (unregister_few path)
  call_few (Call.Respond cookie identity) = by_test (Few past) (not (is_root past c)) (refuse say ErrorCause.NotPrivileged) (option_map_or (answer_respond identity say) (find (λ (ch : Pending). bytes_eq (cookie_text ch.cookie) cookie) (pending past)) (refuse say ErrorCause.NoSuchCookie)) (λ _. refused ErrorCause.NotPrivileged) (λ _.
      by_option (Few past) (answer_respond identity say) (find (λ (ch : Pending). bytes_eq (cookie_text ch.cookie) cookie) (pending past)) (refuse say ErrorCause.NoSuchCookie) (λ _. refused ErrorCause.NoSuchCookie) (λ ch _. respond_few identity ch))
  call_few (Call.EnumerateActions locale) = said (Answer.Actions (loads past) locale)
  call_few (Call.EnumerateGrants subject) = known_few subject (λ f. say (Answer.Grants (live_grants past t f.key))) (λ f. said (Answer.Grants (live_grants past t f.key)))
  call_few (Call.RevokeAll subject) = known_few subject (λ f. say Answer.Done ++ (if any_of (λ g. same_key g.key f.key && is_live_at t g) (kept past) then changed past else [])) (λ f. maybe_changed (any_of (λ (g : GrantRow). same_key g.key f.key && is_live_at t g) (kept past)))
  call_few (Call.RevokeOne id) = by_option (Few past) (answer_revoke past c say) (find (λ (g : GrantRow). bytes_eq id (grant_text g.id) && is_live_at t g) (kept past)) (refuse say ErrorCause.NoSuchGrant) (λ _. refused ErrorCause.NoSuchGrant) (λ g _. revoke_few g)
  call_few Call.Reload = by_test (Few past) (is_root past c) (say Answer.Done ++ record { to = 0; message = Message.LoadWanted } ∷ []) (refuse say ErrorCause.NotPrivileged) (λ _. reload_few) (λ _. refused ErrorCause.NotPrivileged)
  call_few (Call.Wrong cause) = refused cause

-- the answer to an agent that returns, or fails
return_few : (past : List Item) (ch : Pending) (v : Verdict) → Few past (tell_return past ch v)
return_few past ch v = of (is_some v.grant)
  where
    told : List Output
    told = reply_to ch (Answer.Verdict v)

    of : (b : Bool) → Few past (reply_to ch (Answer.Verdict v) ++ (if b then changed past else []))
    of true = let both = length-append (reply_to ch (Answer.Verdict v)) (changed past) in let own = reply_few ch.asker ch.serial ch.quiet (Answer.Verdict v) in let rest = changed_few past in omega (arith, both, own, rest)
    of false = let both = length-append (reply_to ch (Answer.Verdict v)) [] in let own = reply_few ch.asker ch.serial ch.quiet (Answer.Verdict v) in omega (arith, both, own)

load_few : (past : List Item) (world : World) → Few past (flat_map (answer_loaded world) (pending past) ++ changed past)
load_few past world =
    let both = length-append (flat_map (answer_loaded world) (pending past)) (changed past) in
    let each = flat_few (answer_loaded world) 2 (pending past) (loaded_few world) in
    let up = pending_few past in
    let rest = changed_few past in
    omega (arith, both, each, up, rest)

depart_few : (past : List Item) (c : ℕ) → Few past (flat_map (answer_departed c) (pending past))
depart_few past c = let each = flat_few (answer_departed c) 2 (pending past) (departed_few c) in let up = pending_few past in omega (arith, each, up)

-- each event has few outputs
answers_few : (past : List Item) (c t salt : ℕ) (event : Event) (loaded : Option Loaded) → Few past (answers past c t salt event loaded)
answers_few past c t salt event loaded = of event loaded
  where
    on_live : (xs : List Output) → Few past xs → Few past (if live past c then xs else [])
    on_live xs h = by_test (Few past) (live past c) xs [] (λ _. h) (λ _. omega arith)

    of : (event : Event) (l : Option Loaded) → Few past (answers past c t salt event l)
    of (Called serial quiet call) l = on_live (answer_call past c t salt (reply c serial quiet) call) (call_few past c t salt (reply c serial quiet) (reply_few c serial quiet) call)
    of (Returned s) l = on_live (option_map_or (answer_return past t) (at_agent past c s) []) (by_option (Few past) (answer_return past t) (at_agent past c s) [] (λ _. omega arith) (λ ch _. return_few past ch (return_verdict past (kept past) (made past) t ch)))
    of (AgentError s name) l = on_live (option_map_or (answer_error name) (at_agent past c s) []) (by_option (Few past) (answer_error name) (at_agent past c s) [] (λ _. omega arith) (λ ch _. one_few past (answer_error name ch) (reply_few ch.asker ch.serial ch.quiet _)))
    of Depart l = on_live (flat_map (answer_departed c) (pending past)) (depart_few past c)
    of (Load load) None = omega arith
    of (Load load) (Some l) = load_few past l.world
    of Stop l = omega arith
    of (Connect uid) l = omega arith
    of Passed l = omega arith
    of (LoadFailed code) l = omega arith
    of (Collect other) l = omega arith

-- Fewer than 2^24 outputs to a connection are in a journal behind the last item that it takes.
pub last_few : (limits : Limits) (past : List Item) (i : Item) (c : ℕ) → Legal (i ∷ past) → AreAllowed limits → is_full limits past ≡ false → sent (i ∷ past) c < 2 ^ 24
last_few limits past i c legal allowed room =
    let test = (neither (nat_le limits.entries (length past)) (nat_le limits.bytes (counted_bytes past)) room).0 in
    let below : length past < limits.entries = grind (arith, nat_tests) in
    let entries = allowed.0 in
    let before = sent_few limits past c allowed room in
    let answered = ap length legal.0.answered in
    let own = count_few c i.entry.outputs in
    let few = answers_few past i.entry.caller i.entry.moment i.entry.salt i.entry.event i.loaded in
    omega (arith, below, entries, before, answered, own, few)
