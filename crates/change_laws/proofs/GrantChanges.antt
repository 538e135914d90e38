-- The temporary authorizations that nothing ended are, after one more item, those with the change of its event.
use Rattle.std.proofs.Common.{◌≡◌, ℕ, ◌==◌, ◌+◌, ◌<◌, ◌^◌, Bool, true, false, ◌&&◌, ◌||◌, not, List, [], ◌∷◌, ◌++◌, refl, ap, sym, ◌∙◌, Option, Some, None, subst, length, arith}
use Rattle.std.proofs.lemmas.Bool.Decides.{Decides-eqb}
use Rattle.std.proofs.lemmas.List.{append-nil}
use Rattle.std.specs.Prelude.{if◌then◌else◌, filter, option_and_then, option_map, option_to_list, bytes_eq}
use Rattle.std.specs.Option.{option_map_or}
use Rattle.pk_types.specs.declared.values.Subject.{Subject}
use Rattle.entry_changes.specs.declared.change.GrantChange.{GrantChange}
use Rattle.authority_model.specs.declared.event.Call.{Call}
use Rattle.authority_model.specs.declared.event.Event.{Event}
use Rattle.authority_model.specs.declared.event.Event.TheVariants.{Call as Called, Returned}
use Rattle.authority_model.specs.declared.journal.Item.{Item}
use Rattle.authority_model.specs.declared.pending.Pending.{Pending}
use Rattle.authority_model.specs.declared.verdict.GrantRow.{GrantRow}
use Rattle.authority_model.specs.Words.{Bytes}
use Rattle.authority_model.specs.Lists.{Has, Each}
use Rattle.authority_model.specs.Keys.{same_key, uid_of_key}
use Rattle.authority_model.specs.Facts.{Facts}
use Rattle.authority_model.specs.Cookies.{grant_text}
use Rattle.authority_model.specs.Items.{world_of}
use Rattle.authority_model.specs.Subjects.{facts}
use Rattle.authority_model.specs.Peers.{live, may_for, call_in}
use Rattle.authority_model.specs.Agents.{unlists}
use Rattle.authority_model.specs.Challenges.{pending, at_agent}
use Rattle.entry_changes.specs.Finding.{is_sent}
use Rattle.authority_model.specs.Grants.{kept, made, made_by, granted, serial_returned, ends_grant, revokes, revoke_of}
use Rattle.entry_changes.specs.Changes.{grant_change, grant_change_by, granting, revoking, grant_named, with_grant, after_grants, unlisted}
use Rattle.authority_model.specs.Legal.{Legal, Follows}
use Rattle.authority_model.proofs.Cases.{both, find_has, Each-from}
use Rattle.authority_laws.proofs.OnlyOne.{find_none}
use Rattle.authority_laws.proofs.AgentSteps.{same_key_is}
use Rattle.authority_laws.proofs.AgentsBack.{facts_uid}
use Rattle.authority_laws.proofs.GrantNumbers.{number_of_new, numbers_below}
use Rattle.authority_laws.proofs.LiveAgents.{pending_live}
use Rattle.change_laws.specs.GrantCounts.{additions}
use Rattle.change_laws.proofs.Filtering.{filter_alike, filter_twice, filter_all, never, unlisted_is, where_facts}
use Rattle.change_laws.proofs.GrantTexts.{named_is}

-- whether a change ends a temporary authorization
abbrev ended : GrantChange → GrantRow → Bool
ended (GrantChange.EndId id) g = g.id == id
ended (GrantChange.EndKey key) g = same_key g.key key
ended _ g = false

-- the temporary authorization that a change adds
abbrev put : GrantChange → Option GrantRow
put (GrantChange.Add g) = Some g
put _ = None

-- a change ends some and adds one
with_grant_is : (change : GrantChange) (rows : List GrantRow) → with_grant change rows ≡ filter (λ g. not (ended change g)) rows ++ option_to_list (put change)
with_grant_is GrantChange.Keep rows = sym (append-nil (filter (λ (g : GrantRow). true) rows) ∙ filter_all rows)
with_grant_is (GrantChange.Add g) rows = ap (λ xs. xs ++ g ∷ []) (sym (filter_all rows))
with_grant_is (GrantChange.EndId id) rows = sym (append-nil (filter (λ (g : GrantRow). not (g.id == id)) rows))
with_grant_is (GrantChange.EndKey key) rows = sym (append-nil (filter (λ (g : GrantRow). not (same_key g.key key)) rows))

-- what stays is neither ended by a load nor by the change
stays_is : (u r : Bool) → (not u && not r) ≡ not (r || u)
stays_is true true = refl
stays_is true false = refl
stays_is false true = refl
stays_is false false = refl

-- a change that ends what an item revokes, and adds what it makes, makes the temporary authorizations after it
grants_by : (past : List Item) (i : Item) (change : GrantChange) → Follows past i → ((g : GrantRow) → Has (kept past) g → ended change g ≡ revokes past g i) → put change ≡ granted past i
    → after_grants i.entry (world_of (i ∷ past)) change (kept past) ≡ kept (i ∷ past)
grants_by past i change follows out new =
    with_grant_is change (filter stay (kept past))
    ∙ ap (λ o. filter (λ g. not (ended change g)) (filter stay (kept past)) ++ option_to_list o) new
    ∙ ap (λ xs. xs ++ option_to_list (granted past i)) (filter_twice (λ g. not (ended change g)) stay (kept past) ∙ filter_alike (λ g. stay g && not (ended change g)) (λ g. not (ends_grant past g i)) (kept past) same)
  where
    stay : GrantRow → Bool
    stay g = not (unlisted i.entry (world_of (i ∷ past)) g.key)

    same : (g : GrantRow) → Has (kept past) g → (stay g && not (ended change g)) ≡ not (ends_grant past g i)
    same g h =
        ap (λ b. not b && not (ended change g)) (unlisted_is past i follows g.key)
        ∙ ap (λ b. not (unlists g.key i) && not b) (out g h)
        ∙ stays_is (unlists g.key i) (revokes past g i)

-- What the change adds.

keep_puts : (l : Bool) → put (if l then GrantChange.Keep else GrantChange.Keep) ≡ None
keep_puts true = refl
keep_puts false = refl

-- a RevokeAll adds none
all_puts : (past : List Item) (c : ℕ) (l : Bool) (o : Option Facts) → put (if l then where_facts past c o GrantChange.Keep (λ f. GrantChange.EndKey f.key) else GrantChange.Keep) ≡ None
all_puts past c false o = refl
all_puts past c true None = refl
all_puts past c true (Some f) = by (may_for past c f.uid)
  where
    by : (m : Bool) → put (if m then GrantChange.EndKey f.key else GrantChange.Keep) ≡ None
    by true = refl
    by false = refl

-- a RevokeOne adds none
one_puts : (past : List Item) (c : ℕ) (l : Bool) (o : Option GrantRow) → put (if l then option_map_or (revoking past c) o GrantChange.Keep else GrantChange.Keep) ≡ None
one_puts past c false o = refl
one_puts past c true None = refl
one_puts past c true (Some g) = by (may_for past c (uid_of_key g.key))
  where
    by : (m : Bool) → put (if m then GrantChange.EndId g.id else GrantChange.Keep) ≡ None
    by true = refl
    by false = refl

-- no call adds one
call_puts : (past : List Item) (c : ℕ) (call : Call) → put (if live past c then grant_change_by past c call else GrantChange.Keep) ≡ None
call_puts past c (Call.RevokeAll subject) = all_puts past c (live past c) (facts past subject)
call_puts past c (Call.RevokeOne id) = one_puts past c (live past c) (grant_named id (kept past))
call_puts past c _ = keep_puts (live past c)

-- no pending challenge has an agent that is not live
pub none_at : (past : List Item) → Legal past → (c s : ℕ) → live past c ≡ false → at_agent past c s ≡ None
none_at past legal c s gone = find_none (is_sent c s) (pending past) (λ ch h. of ch h (is_sent c s ch) refl)
  where
    of : (ch : Pending) → Has (pending past) ch → (b : Bool) → is_sent c s ch ≡ b → b ≡ false
    of ch h false is = refl
    of ch h true is =
        let agent = (Decides-eqb ch.agent c).0 (both (ch.agent == c) (ch.agent_serial == s) is).0 in
        absurd (cc (sym gone ∙ subst (λ n. live past n ≡ true) agent (pending_live past legal ch h).1))

-- a return adds what its challenge makes
return_puts : (past : List Item) → Legal past → (c t s : ℕ) → put (grant_change past c t (Returned s)) ≡ option_and_then (made_by past (kept past) (made past) t) (at_agent past c s)
return_puts past legal c t s = of (live past c) refl
  where
    made_is : (o : Option GrantRow) → put (option_map_or GrantChange.Add o GrantChange.Keep) ≡ o
    made_is None = refl
    made_is (Some g) = refl

    at : (o : Option Pending) → put (option_map_or (granting past t) o GrantChange.Keep) ≡ option_and_then (made_by past (kept past) (made past) t) o
    at None = refl
    at (Some ch) = made_is (made_by past (kept past) (made past) t ch)

    of : (l : Bool) → live past c ≡ l → put (if l then option_map_or (granting past t) (at_agent past c s) GrantChange.Keep else GrantChange.Keep) ≡ option_and_then (made_by past (kept past) (made past) t) (at_agent past c s)
    of true lives = at (at_agent past c s)
    of false gone = ap (option_and_then (made_by past (kept past) (made past) t)) (sym (none_at past legal c s gone))

-- an event adds what it makes
event_puts : (past : List Item) → Legal past → (c t : ℕ) (event : Event) → put (grant_change past c t event) ≡ option_and_then (made_by past (kept past) (made past) t) (option_and_then (at_agent past c) (serial_returned event))
event_puts past legal c t (Returned s) = return_puts past legal c t s
event_puts past legal c t (Called serial quiet call) = call_puts past c call
event_puts past legal c t _ = refl

-- What the change ends. The test of an item is whether its caller is live, whether it may speak for the user of the key, and whether the call means the temporary authorization.

-- a call that means none ends none
none_meant : (l m : Bool) → (l && m && false) ≡ false
none_meant l m = never (l && m)

keep_ends : (l m : Bool) (g : GrantRow) → ended (if l then GrantChange.Keep else GrantChange.Keep) g ≡ (l && m && false)
keep_ends true m g = sym (none_meant true m)
keep_ends false m g = refl

-- a RevokeAll for a subject of these facts ends those of its key
all_ends : (past : List Item) (c : ℕ) (g : GrantRow) (f : Facts) → f.uid ≡ uid_of_key f.key → (l : Bool)
    → ended (if l then (if may_for past c f.uid then GrantChange.EndKey f.key else GrantChange.Keep) else GrantChange.Keep) g ≡ (l && may_for past c (uid_of_key g.key) && same_key g.key f.key)
all_ends past c g f user false = refl
all_ends past c g f user true = of (same_key g.key f.key) refl
  where
    means : Bool → Bool
    means t = may_for past c (uid_of_key g.key) && t

    differs : (m : Bool) → same_key g.key f.key ≡ false → ended (if m then GrantChange.EndKey f.key else GrantChange.Keep) g ≡ false
    differs true is = is
    differs false is = refl

    equals : (m : Bool) → same_key g.key f.key ≡ true → ended (if m then GrantChange.EndKey f.key else GrantChange.Keep) g ≡ (m && true)
    equals true is = is
    equals false is = refl

    of : (t : Bool) → same_key g.key f.key ≡ t → ended (if may_for past c f.uid then GrantChange.EndKey f.key else GrantChange.Keep) g ≡ means (same_key g.key f.key)
    of false is = differs (may_for past c f.uid) is ∙ sym (never (may_for past c (uid_of_key g.key))) ∙ ap means (sym is)
    of true is =
        equals (may_for past c f.uid) is
        ∙ ap (λ uid. may_for past c uid && true) (user ∙ ap uid_of_key (sym (same_key_is g.key f.key is)))
        ∙ ap means (sym is)

-- a RevokeOne ends the one that its text names
one_ends : (past : List Item) → Legal past → length past < 2 ^ 63 → (c : ℕ) (g : GrantRow) → Has (kept past) g → (id : Bytes) (l : Bool)
    → ended (if l then option_map_or (revoking past c) (grant_named id (kept past)) GrantChange.Keep else GrantChange.Keep) g ≡ (l && may_for past c (uid_of_key g.key) && bytes_eq id (grant_text g.id))
one_ends past legal short c g h id false = refl
one_ends past legal short c g h id true = of (bytes_eq id (grant_text g.id)) refl
  where
    means : Bool → Bool
    means t = may_for past c (uid_of_key g.key) && t

    own : (m : Bool) → ended (if m then GrantChange.EndId g.id else GrantChange.Keep) g ≡ (m && true)
    own true = (Decides-eqb g.id g.id).1 refl
    own false = refl

    -- where the text is another's, that one has another number
    differs : (o : Option GrantRow) → grant_named id (kept past) ≡ o → bytes_eq id (grant_text g.id) ≡ false → ended (option_map_or (revoking past c) o GrantChange.Keep) g ≡ false
    differs None is out = refl
    differs (Some r) is out = by (may_for past c (uid_of_key r.key)) (g.id == r.id) refl
      where
        by : (m e : Bool) → (g.id == r.id) ≡ e → ended (if m then GrantChange.EndId r.id else GrantChange.Keep) g ≡ false
        by false e same = refl
        by true false same = same
        by true true same =
            let found = (find_has (λ (x : GrantRow). bytes_eq id (grant_text x.id)) (kept past) r is).1 in
            absurd (cc (sym out ∙ ap (λ n. bytes_eq id (grant_text n)) ((Decides-eqb g.id r.id).0 same) ∙ found))

    of : (t : Bool) → bytes_eq id (grant_text g.id) ≡ t → ended (option_map_or (revoking past c) (grant_named id (kept past)) GrantChange.Keep) g ≡ means (bytes_eq id (grant_text g.id))
    of false is = differs (grant_named id (kept past)) refl is ∙ sym (never (may_for past c (uid_of_key g.key))) ∙ ap means (sym is)
    of true is =
        ap (λ o. ended (option_map_or (revoking past c) o GrantChange.Keep) g) (named_is past legal short g h id is)
        ∙ own (may_for past c (uid_of_key g.key))
        ∙ ap means (sym is)

-- a RevokeAll ends those of its subject's key, where it is known
revoked_all : (past : List Item) (c : ℕ) (g : GrantRow) (subject : Subject) (o : Option Facts) → facts past subject ≡ o
    → ended (if live past c then where_facts past c o GrantChange.Keep (λ f. GrantChange.EndKey f.key) else GrantChange.Keep) g
    ≡ (live past c && may_for past c (uid_of_key g.key) && option_map_or (same_key g.key) (option_map (λ f. f.key) o) false)
revoked_all past c g subject None is = keep_ends (live past c) (may_for past c (uid_of_key g.key)) g
revoked_all past c g subject (Some f) is = all_ends past c g f (facts_uid past subject f is) (live past c)

-- a call ends those that it revokes
call_ends : (past : List Item) → Legal past → length past < 2 ^ 63 → (c : ℕ) (g : GrantRow) → Has (kept past) g → (call : Call)
    → ended (if live past c then grant_change_by past c call else GrantChange.Keep) g ≡ (live past c && may_for past c (uid_of_key g.key) && revoke_of past g call)
call_ends past legal short c g h (Call.RevokeAll subject) = revoked_all past c g subject (facts past subject) refl
call_ends past legal short c g h (Call.RevokeOne id) = one_ends past legal short c g h id (live past c)
call_ends past legal short c g h _ = keep_ends (live past c) (may_for past c (uid_of_key g.key)) g

-- a return ends none
return_ends : (past : List Item) (t : ℕ) (g : GrantRow) (l : Bool) (o : Option Pending) → ended (if l then option_map_or (granting past t) o GrantChange.Keep else GrantChange.Keep) g ≡ false
return_ends past t g false o = refl
return_ends past t g true None = refl
return_ends past t g true (Some ch) = adds (made_by past (kept past) (made past) t ch)
  where
    adds : (o : Option GrantRow) → ended (option_map_or GrantChange.Add o GrantChange.Keep) g ≡ false
    adds None = refl
    adds (Some r) = refl

-- an event ends those that it revokes
event_ends : (past : List Item) → Legal past → length past < 2 ^ 63 → (c t : ℕ) (g : GrantRow) → Has (kept past) g → (event : Event)
    → ended (grant_change past c t event) g ≡ (live past c && may_for past c (uid_of_key g.key) && option_map_or (revoke_of past g) (call_in event) false)
event_ends past legal short c t g h (Called serial quiet call) = call_ends past legal short c g h call
event_ends past legal short c t g h (Returned s) = return_ends past t g (live past c) (at_agent past c s) ∙ sym (none_meant (live past c) (may_for past c (uid_of_key g.key)))
event_ends past legal short c t g h _ = sym (none_meant (live past c) (may_for past c (uid_of_key g.key)))

-- The temporary authorizations with the change of an event, and without those that a load ends, are those after it.
pub grants_after : (past : List Item) (i : Item) → Legal past → Follows past i → length past < 2 ^ 63
    → after_grants i.entry (world_of (i ∷ past)) (grant_change past i.entry.caller i.entry.moment i.entry.event) (kept past) ≡ kept (i ∷ past)
grants_after past i legal follows short = grants_by past i (grant_change past i.entry.caller i.entry.moment i.entry.event) follows
    (λ g h. event_ends past legal short i.entry.caller i.entry.moment g h i.entry.event) (event_puts past legal i.entry.caller i.entry.moment i.entry.event)

-- the number that a change adds is above all that are there
pub grant_fresh : (past : List Item) (i : Item) → Legal past → (g : GrantRow) → grant_change past i.entry.caller i.entry.moment i.entry.event ≡ GrantChange.Add g → Each (λ r. r.id < g.id) (kept past)
grant_fresh past i legal g is =
    let new = number_of_new past legal i g (sym (event_puts past legal i.entry.caller i.entry.moment i.entry.event) ∙ ap put is) in
    Each-from (λ (r : GrantRow). r.id < g.id) (kept past) (λ r h. let below = numbers_below past legal r h in omega (arith, new, below))

-- how many were made after one more item
pub made_after : (past : List Item) (i : Item) → Legal past → made (i ∷ past) ≡ made past + additions (grant_change past i.entry.caller i.entry.moment i.entry.event)
made_after past i legal = ap (λ o. made past + length (option_to_list o)) (sym (event_puts past legal i.entry.caller i.entry.moment i.entry.event)) ∙ of (grant_change past i.entry.caller i.entry.moment i.entry.event)
  where
    of : (change : GrantChange) → made past + length (option_to_list (put change)) ≡ made past + additions change
    of GrantChange.Keep = refl
    of (GrantChange.Add g) = refl
    of (GrantChange.EndId id) = refl
    of (GrantChange.EndKey key) = refl
