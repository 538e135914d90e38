-- What holds of all pending challenges of a legal history, and which of them are unique.
use Rattle.std.proofs.Common.{◌≡◌, ℕ, ◌==◌, ◌+◌, ◌^◌, ◌<◌, ◌≤◌, Bool, true, false, ◌&&◌, not, List, [], ◌∷◌, ◌++◌, refl, ap, sym, ◌∙◌, inl, inr, Option, Some, None, is_some, ◌⊎◌, subst, length, arith}
use Rattle.std.proofs.lemmas.Bool.Decides.{Decides-eqb}
use Rattle.std.proofs.lemmas.Slice.Eq.{bytes_eq-Decides}
use Rattle.std.proofs.lemmas.List.{append-nil}
use Rattle.std.specs.Prelude.{⊤, if◌then◌else◌, filter, find, map, option_map, option_to_list, bytes_eq}
use Rattle.pk_types.specs.Decimals.{is_empty}
use Rattle.authority_model.specs.declared.verdict.Cookie.{Cookie}
use Rattle.authority_model.specs.declared.journal.Item.{Item}
use Rattle.authority_model.specs.declared.pending.Pending.{Pending}
use Rattle.authority_model.specs.Words.{Bytes}
use Rattle.authority_model.specs.Lists.{Has, AtMostOne, or_else}
use Rattle.authority_model.specs.declared.message.Message.{Message}
use Rattle.authority_model.specs.Admins.{allowed}
use Rattle.authority_model.specs.Items.{sent, count_to, world_of, policy_of}
use Rattle.authority_model.specs.Challenges.{Begun, pending, opened, opened_count, closes, with_answer, begun_in, with_id}
use Rattle.authority_model.specs.Answers.{begin_to}
use Rattle.authority_model.specs.Legal.{Legal, Follows}
use Rattle.authority_model.proofs.Cases.{both, filter_has, map_has, append_has}
use Rattle.authority_laws.proofs.OnlyOne.{unless, find_append, find_filter, find_map, one_filter, one_append, one_map, find_none, none_passes}
use Rattle.authority_laws.proofs.Opening.{opening, asked}
use Rattle.authority_laws.proofs.Standing.{not_some, not_true}

-- what holds of a challenge when it is opened, and stays, holds of all that are pending
pub each_pending : (P : List Item → Pending → Type 0)
    → ((past : List Item) (i : Item) (ch : Pending) → Legal (i ∷ past) → opened past i ≡ Some ch → P (i ∷ past) ch)
    → ((past : List Item) (i : Item) (ch : Pending) → Legal (i ∷ past) → P past ch → closes past ch i ≡ false → P (i ∷ past) (with_answer past i ch))
    → (past : List Item) → Legal past → (ch : Pending) → Has (pending past) ch → P past ch
each_pending P opens stays [] legal ch h = absurd h
each_pending P opens stays (i ∷ past) legal ch h = of (each_pending P opens stays past legal.1) (append_has (map (with_answer past i) (filter (λ c. not (closes past c i)) (pending past))) (option_to_list (opened past i)) ch h)
  where
    new : (o : Option Pending) → opened past i ≡ o → Has (option_to_list o) ch → P (i ∷ past) ch
    new None e h = absurd h
    new (Some c) e (inl same) = opens past i ch legal (e ∙ ap Some same)
    new (Some c) e (inr h) = absurd h

    of : ((c : Pending) → Has (pending past) c → P past c) → Has (map (with_answer past i) (filter (λ c. not (closes past c i)) (pending past))) ch ⊎ Has (option_to_list (opened past i)) ch → P (i ∷ past) ch
    of ih (inl h) =
        let old = map_has (with_answer past i) (filter (λ c. not (closes past c i)) (pending past)) ch h in
        let there = filter_has (λ c. not (closes past c i)) (pending past) old.0 old.1 in
        subst (P (i ∷ past)) old.2 (stays past i old.0 legal (ih old.0 there.0) (not_true (closes past old.0 i) there.1))
    of ih (inr h) = new (opened past i) refl h

-- Where no pending challenge passes a test together with a new one, at most one passes. This may rest on what holds of a history wherever it holds of a longer one.
one_pending_where : (Q : List Item → Type 0) → ((past : List Item) (i : Item) → Q (i ∷ past) → Q past)
    → (test : Pending → Bool) → ((past : List Item) (i : Item) (ch : Pending) → test (with_answer past i ch) ≡ test ch)
    → ((past : List Item) (i : Item) (ch : Pending) → Legal (i ∷ past) → Q past → opened past i ≡ Some ch → test ch ≡ true → (c : Pending) → Has (pending past) c → test c ≡ false)
    → (past : List Item) → Legal past → Q past → AtMostOne test (pending past)
one_pending_where Q back test same fresh [] legal q = tt
one_pending_where Q back test same fresh (i ∷ past) legal q = of (opened past i) refl (one_map test (with_answer past i) (same past i) (filter (λ c. not (closes past c i)) (pending past)) (one_filter test (λ c. closes past c i) (pending past) (one_pending_where Q back test same fresh past legal.1 (back past i q))))
  where
    none : (ch : Pending) → opened past i ≡ Some ch → test ch ≡ true → (c : Pending) → Has (map (with_answer past i) (filter (λ c. not (closes past c i)) (pending past))) c → test c ≡ false
    none ch e t c h =
        let from = map_has (with_answer past i) (filter (λ c. not (closes past c i)) (pending past)) c h in
        ap test (sym from.2) ∙ same past i from.0 ∙ fresh past i ch legal (back past i q) e t from.0 (filter_has (λ c. not (closes past c i)) (pending past) from.0 from.1).0

    of : (o : Option Pending) → opened past i ≡ o → AtMostOne test (map (with_answer past i) (filter (λ c. not (closes past c i)) (pending past))) → AtMostOne test (map (with_answer past i) (filter (λ c. not (closes past c i)) (pending past)) ++ option_to_list o)
    of None e old = subst (AtMostOne test) (sym (append-nil (map (with_answer past i) (filter (λ c. not (closes past c i)) (pending past))))) old
    of (Some ch) e old = one_append test (map (with_answer past i) (filter (λ c. not (closes past c i)) (pending past))) ch old (λ t. find_none test (map (with_answer past i) (filter (λ c. not (closes past c i)) (pending past))) (none ch e t))

-- the same of all legal histories
pub one_pending : (test : Pending → Bool) → ((past : List Item) (i : Item) (ch : Pending) → test (with_answer past i ch) ≡ test ch)
    → ((past : List Item) (i : Item) (ch : Pending) → Legal (i ∷ past) → opened past i ≡ Some ch → test ch ≡ true → (c : Pending) → Has (pending past) c → test c ≡ false)
    → (past : List Item) → Legal past → AtMostOne test (pending past)
one_pending test same fresh past legal = one_pending_where (λ past. ⊤) (λ past i q. tt) test same (λ past i ch legal q. fresh past i ch legal) past legal tt

-- the same of those that are not too long
pub one_pending_short : (test : Pending → Bool) → ((past : List Item) (i : Item) (ch : Pending) → test (with_answer past i ch) ≡ test ch)
    → ((past : List Item) (i : Item) (ch : Pending) → Legal (i ∷ past) → length past < 2 ^ 63 → opened past i ≡ Some ch → test ch ≡ true → (c : Pending) → Has (pending past) c → test c ≡ false)
    → (past : List Item) → Legal past → length past < 2 ^ 63 → AtMostOne test (pending past)
one_pending_short test same fresh past legal short = one_pending_where (λ past. length past < 2 ^ 63) (λ past i q. omega arith) test same fresh past legal short

-- A search by a test that no answer changes: what was found before, with its answer, unless the item closes it; else the challenge that the item opens, if it passes.
pub pending_step : (test : Pending → Bool) → ((past : List Item) (i : Item) (ch : Pending) → test (with_answer past i ch) ≡ test ch) → (past : List Item) → AtMostOne test (pending past) → (i : Item)
    → find test (pending (i ∷ past)) ≡ or_else (option_map (with_answer past i) (unless (λ ch. closes past ch i) (find test (pending past)))) (find test (option_to_list (opened past i)))
pending_step test same past one i =
    find_append test (map (with_answer past i) (filter (λ ch. not (closes past ch i)) (pending past))) (option_to_list (opened past i))
    ∙ ap (λ o. or_else o (find test (option_to_list (opened past i)))) (find_map test (with_answer past i) (same past i) (filter (λ ch. not (closes past ch i)) (pending past)) ∙ ap (option_map (with_answer past i)) (find_filter test (λ ch. closes past ch i) (pending past) one))

self_count : (c : ℕ) (m : Message) → count_to c (record { to = c; message = m } ∷ []) ≡ 1
self_count c m = ap (λ b. (if b then 1 else 0) + 0) ((Decides-eqb c c).1 refl)

same_cookie : (b x : Begun) → Some b ≡ Some x → b.cookie ≡ x.cookie
same_cookie b x e = cc

-- no pending challenge has a serial that its agent was not sent yet
pub serial_sent : (past : List Item) → Legal past → (ch : Pending) → Has (pending past) ch → ch.agent_serial ≤ sent past ch.agent
serial_sent = each_pending (λ past ch. ch.agent_serial ≤ sent past ch.agent) opens stays
  where
    opens : (past : List Item) (i : Item) (ch : Pending) → Legal (i ∷ past) → opened past i ≡ Some ch → ch.agent_serial ≤ sent (i ∷ past) ch.agent
    opens past i ch legal e =
        let o = opening past i ch e in
        let a = asked past i ch legal.0 o in
        let one : count_to o.a.caller i.entry.outputs ≡ 1 = ap (count_to o.a.caller) a.outputs ∙ self_count o.a.caller (begin_to past i.entry.salt o.f o.a a.action o.v.0 a.details).message in
        subst (λ (ch : Pending). ch.agent_serial ≤ sent (i ∷ past) ch.agent) o.whole (omega (arith, one))

    stays : (past : List Item) (i : Item) (ch : Pending) → Legal (i ∷ past) → ch.agent_serial ≤ sent past ch.agent → closes past ch i ≡ false → ch.agent_serial ≤ sent (i ∷ past) ch.agent
    stays past i ch legal h open' = omega arith

-- the cookie of a new challenge counts it
pub new_cookie : (past : List Item) (i : Item) (ch : Pending) → Follows past i → opened past i ≡ Some ch → ch.cookie.serial ≡ opened_count past + 1
new_cookie past i ch follows e =
    let o = opening past i ch e in
    let a = asked past i ch follows o in
    let due : Begun = record { cookie = record { serial = opened_count past + 1; salt = i.entry.salt }; identities = allowed (world_of past) (policy_of past).admins o.v.0 o.f.uid } in
    let same : Some o.b ≡ Some due = sym o.begins ∙ ap begun_in a.outputs in
    subst (λ (ch : Pending). ch.cookie.serial ≡ opened_count past + 1) o.whole (ap (λ (c : Cookie). c.serial) (same_cookie o.b due same))

-- no pending challenge has a cookie that was not given yet
pub cookie_given : (past : List Item) → Legal past → (ch : Pending) → Has (pending past) ch → ch.cookie.serial ≤ opened_count past
cookie_given = each_pending (λ past ch. ch.cookie.serial ≤ opened_count past) opens stays
  where
    opens : (past : List Item) (i : Item) (ch : Pending) → Legal (i ∷ past) → opened past i ≡ Some ch → ch.cookie.serial ≤ opened_count (i ∷ past)
    opens past i ch legal e =
        let n = new_cookie past i ch legal.0 e in
        let one : length (option_to_list (opened past i)) ≡ 1 = ap (λ o. length (option_to_list o)) e in
        omega (arith, n, one)

    stays : (past : List Item) (i : Item) (ch : Pending) → Legal (i ∷ past) → ch.cookie.serial ≤ opened_count past → closes past ch i ≡ false → ch.cookie.serial ≤ opened_count (i ∷ past)
    stays past i ch legal h open' = omega arith

-- at most one pending challenge has this agent and serial
pub one_serial : (past : List Item) → Legal past → (c s : ℕ) → AtMostOne (λ ch. (ch.agent == c) && (ch.agent_serial == s)) (pending past)
one_serial past legal c s = one_pending (λ ch. (ch.agent == c) && (ch.agent_serial == s)) (λ past i ch. refl) fresh past legal
  where
    fresh : (past : List Item) (i : Item) (ch : Pending) → Legal (i ∷ past) → opened past i ≡ Some ch → ((ch.agent == c) && (ch.agent_serial == s)) ≡ true → (d : Pending) → Has (pending past) d → ((d.agent == c) && (d.agent_serial == s)) ≡ false
    fresh past i ch legal e t d h =
        let new = both (ch.agent == c) (ch.agent_serial == s) t in
        let agent : ch.agent ≡ c = (Decides-eqb ch.agent c).0 new.0 in
        let serial : ch.agent_serial ≡ s = (Decides-eqb ch.agent_serial s).0 new.1 in
        let next : ch.agent_serial ≡ sent past ch.agent + 1 = subst (λ (ch : Pending). ch.agent_serial ≡ sent past ch.agent + 1) (opening past i ch e).whole refl in
        let next' : s ≡ sent past c + 1 = sym serial ∙ next ∙ ap (λ a. sent past a + 1) agent in
        of ((d.agent == c) && (d.agent_serial == s)) refl next' (serial_sent past legal.1 d h)
      where
        of : (b : Bool) → ((d.agent == c) && (d.agent_serial == s)) ≡ b → s ≡ sent past c + 1 → d.agent_serial ≤ sent past d.agent → b ≡ false
        of false is next h = refl
        of true is next h =
            let old = both (d.agent == c) (d.agent_serial == s) is in
            let agent : d.agent ≡ c = (Decides-eqb d.agent c).0 old.0 in
            let serial : d.agent_serial ≡ s = (Decides-eqb d.agent_serial s).0 old.1 in
            let h' : d.agent_serial ≤ sent past c = subst (λ a. d.agent_serial ≤ sent past a) agent h in
            absurd (omega (arith, h', serial, next))

-- at most one pending challenge has a cookie of this number
pub one_cookie : (past : List Item) → Legal past → (n : ℕ) → AtMostOne (λ ch. ch.cookie.serial == n) (pending past)
one_cookie past legal n = one_pending (λ ch. ch.cookie.serial == n) (λ past i ch. refl) fresh past legal
  where
    fresh : (past : List Item) (i : Item) (ch : Pending) → Legal (i ∷ past) → opened past i ≡ Some ch → (ch.cookie.serial == n) ≡ true → (d : Pending) → Has (pending past) d → (d.cookie.serial == n) ≡ false
    fresh past i ch legal e t d h = of (d.cookie.serial == n) refl (sym ((Decides-eqb ch.cookie.serial n).0 t) ∙ new_cookie past i ch legal.0 e) (cookie_given past legal.1 d h)
      where
        of : (b : Bool) → (d.cookie.serial == n) ≡ b → n ≡ opened_count past + 1 → d.cookie.serial ≤ opened_count past → b ≡ false
        of false is next h = refl
        of true is next h = let same : d.cookie.serial ≡ n = (Decides-eqb d.cookie.serial n).0 is in absurd (omega (arith, same, next, h))

-- at most one pending challenge has this asker and this cancellation id, which isn't empty
pub one_cancel : (past : List Item) → Legal past → (c : ℕ) (id : Bytes) → is_empty id ≡ false → AtMostOne (λ ch. (ch.asker == c) && bytes_eq ch.cancel id) (pending past)
one_cancel past legal c id some = one_pending (λ ch. (ch.asker == c) && bytes_eq ch.cancel id) (λ past i ch. refl) fresh past legal
  where
    fresh : (past : List Item) (i : Item) (ch : Pending) → Legal (i ∷ past) → opened past i ≡ Some ch → ((ch.asker == c) && bytes_eq ch.cancel id) ≡ true → (d : Pending) → Has (pending past) d → ((d.asker == c) && bytes_eq d.cancel id) ≡ false
    fresh past i ch legal e t d h =
        let new = both (ch.asker == c) (bytes_eq ch.cancel id) t in
        let o = opening past i ch e in
        let asker : i.entry.caller ≡ c = subst (λ (ch : Pending). ch.asker ≡ c → i.entry.caller ≡ c) o.whole (λ e. e) ((Decides-eqb ch.asker c).0 new.0) in
        let cancel : o.q.cancel ≡ id = subst (λ (ch : Pending). ch.cancel ≡ id → o.q.cancel ≡ id) o.whole (λ e. e) ((bytes_eq-Decides ch.cancel id).0 new.1) in
        let free : is_some (with_id past c id) ≡ false = ap (λ x. is_some (with_id past c x)) (sym cancel) ∙ ap (λ x. is_some (with_id past x o.q.cancel)) (sym asker) ∙ (asked past i ch legal.0 o).fresh in
        let free' : is_some (find (λ ch. (ch.asker == c) && bytes_eq ch.cancel id) (pending past)) ≡ false = sym (ap (λ b. is_some (if b then None else find (λ (ch : Pending). (ch.asker == c) && bytes_eq ch.cancel id) (pending past))) some) ∙ free in
        none_passes (λ ch. (ch.asker == c) && bytes_eq ch.cancel id) (pending past) (not_some (find (λ ch. (ch.asker == c) && bytes_eq ch.cancel id) (pending past)) (ap not free')) d h
