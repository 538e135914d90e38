-- The temporary authorizations are those that looking back finds.
use Rattle.std.proofs.Common.{◌≡◌, ℕ, ◌==◌, ◌+◌, ◌<◌, true, false, ◌&&◌, not, List, [], ◌∷◌, ◌++◌, refl, ap, sym, ◌∙◌, inl, inr, ◌⊎◌, Option, Some, None, subst, length, arith}
use Rattle.std.proofs.lemmas.Bool.Decides.{Decides-eqb, Decides-ltb}
use Rattle.std.proofs.lemmas.Slice.Eq.{bytes_eq-Decides}
use Rattle.std.specs.Prelude.{filter, option_map, option_and_then, option_to_list, if◌then◌else◌, bytes_eq, nat_lt}
use Rattle.std.specs.Option.{option_map_or}
use Rattle.pk_types.specs.declared.values.Identity.{Identity}
use Rattle.pk_types.specs.declared.values.Implicit.{Implicit}
use Rattle.authority_model.specs.declared.event.Event.{Event}
use Rattle.authority_model.specs.declared.event.Event.TheVariants.{Returned}
use Rattle.authority_model.specs.declared.verdict.GrantRow.{GrantRow}
use Rattle.authority_model.specs.declared.journal.Item.{Item}
use Rattle.authority_model.specs.declared.key.Key.{Key}
use Rattle.authority_model.specs.declared.pending.Pending.{Pending}
use Rattle.authority_model.specs.declared.verdict.Reason.{Reason}
use Rattle.authority_model.specs.declared.verdict.RuleSource.{RuleSource}
use Rattle.authority_model.specs.Words.{Bytes}
use Rattle.authority_model.specs.Lists.{Has, when}
use Rattle.authority_model.specs.Keys.{same_key, uid_of_key}
use Rattle.authority_model.specs.Values.{is_keep}
use Rattle.authority_model.specs.Challenges.{pending, at_agent}
use Rattle.authority_model.specs.Deciding.{Decision, decision_of, serves}
use Rattle.authority_model.specs.Verdicts.{redecided, answered_verdict, return_verdict, granted_by, no_by, may_answer}
use Rattle.authority_model.specs.Grants.{kept, made, granted, made_by, returned, serial_returned, grant_row, ends_grant}
use Rattle.authority_model.specs.Legal.{Legal}
use Rattle.authority_model.specs.LookBack.{unanswered, NoneOf, IsAnswered, IsMade, MadeCount, IsLiveGrant}
use Rattle.authority_model.proofs.Cases.{by_test, by_option, both, map_some, then_some, when_some, append_has, filter_has, find_has}
use Rattle.authority_laws.proofs.OnlyOne.{find_only}
use Rattle.authority_laws.proofs.AgentSteps.{same_key_is}
use Rattle.authority_laws.proofs.AgentsBack.{same_key_refl}
use Rattle.authority_laws.proofs.PendingBack.{pending_back, pending_forth, answered_back, answered_forth}
use Rattle.authority_laws.proofs.OnePending.{one_serial}
use Rattle.authority_laws.proofs.Standing.{not_true, has_left, has_right, filter_in}

-- why a verdict on a return has a temporary authorization
pub record Makes (past : List Item) (n t : ℕ) (ch : Pending) (m : ℕ) : Type 0 where
  pub identity : Identity
  pub answered : ch.answered ≡ Some identity
  pub value : Implicit
  pub source : RuleSource
  pub decides : decision_of past (kept past) t ch.key ch.action ≡ Some (Decision.Challenge value source)
  pub keeps : is_keep value ≡ true
  pub may : may_answer past value (uid_of_key ch.key) identity ≡ true
  pub number : n ≡ m

verdict_makes : (past : List Item) (n t : ℕ) (ch : Pending) (m : ℕ) → (return_verdict past (kept past) n t ch).grant ≡ Some m → Makes past n t ch m
verdict_makes past n t ch m = by_option (λ v. v.grant ≡ Some m → Makes past n t ch m) (answered_verdict past (kept past) n t ch) ch.answered (no_by Reason.Challenge) (λ _ e. absurd (cc)) (λ id answered.
    by_option (λ v. v.grant ≡ Some m → Makes past n t ch m) (redecided past n ch.key id) (decision_of past (kept past) t ch.key ch.action) (no_by Reason.ActionGone) (λ _ e. absurd (cc)) (λ d decides. of id answered d decides))
  where
    of : (id : Identity) → ch.answered ≡ Some id → (d : Decision) → decision_of past (kept past) t ch.key ch.action ≡ Some d → (redecided past n ch.key id d).grant ≡ Some m → Makes past n t ch m
    of id answered (Decision.Challenge value source) decides e = by_test (λ v. v.grant ≡ Some m → Makes past n t ch m) (may_answer past value (uid_of_key ch.key) id) (granted_by (when (is_keep value) n)) (no_by Reason.IdentityGone)
        (λ may e. let w = when_some (is_keep value) n m e in record { identity = id; answered = answered; value = value; source = source; decides = decides; keeps = w.0; may = may; number = w.1 })
        (λ _ e. absurd (cc)) e
    of id answered Decision.Root decides e = absurd (cc)
    of id answered (Decision.Yes source) decides e = absurd (cc)
    of id answered (Decision.Granted g) decides e = absurd (cc)
    of id answered (Decision.Imply b) decides e = absurd (cc)
    of id answered (Decision.No source) decides e = absurd (cc)

makes_verdict : (past : List Item) (n t : ℕ) (ch : Pending) (id : Identity) (value : Implicit) (source : RuleSource) → ch.answered ≡ Some id → decision_of past (kept past) t ch.key ch.action ≡ Some (Decision.Challenge value source) → is_keep value ≡ true → may_answer past value (uid_of_key ch.key) id ≡ true → (return_verdict past (kept past) n t ch).grant ≡ Some n
makes_verdict past n t ch id value source answered decides keeps may =
    ap (λ o. (option_map_or (answered_verdict past (kept past) n t ch) o (no_by Reason.Challenge)).grant) answered
    ∙ ap (λ o. (option_map_or (redecided past n ch.key id) o (no_by Reason.ActionGone)).grant) decides
    ∙ ap (λ b. (if b then granted_by (when (is_keep value) n) else no_by Reason.IdentityGone).grant) may
    ∙ ap (λ b. when b n) keeps

serial_is : (e : Event) (s : ℕ) → serial_returned e ≡ Some s → e ≡ Returned s
serial_is (Returned s') s e = let same : s' ≡ s = cc in ap Returned same
serial_is _ s e = absurd (cc)

-- an item that makes a temporary authorization, as the sentence says it, and back
pub granted_is : (past : List Item) → Legal past → (i : Item) (row : GrantRow) → granted past i ≡ Some row → (o : Pending) × (identity : Identity) × IsMade past i o identity × (row ≡ grant_row o i.entry.moment (made past))
granted_is past legal i row e =
    let ch = then_some (made_by past (kept past) (made past) i.entry.moment) (returned past i) row e in
    let s = then_some (at_agent past i.entry.caller) (serial_returned i.entry.event) ch.0 ch.1 in
    let n = map_some (grant_row ch.0 i.entry.moment) (return_verdict past (kept past) (made past) i.entry.moment ch.0).grant row ch.2 in
    let m = verdict_makes past (made past) i.entry.moment ch.0 n.0 n.1 in
    let found = find_has (λ (ch : Pending). (ch.agent == i.entry.caller) && (ch.agent_serial == s.0)) (pending past) ch.0 s.2 in
    let parts = both (ch.0.agent == i.entry.caller) (ch.0.agent_serial == s.0) found.1 in
    let serial : s.0 ≡ ch.0.agent_serial = sym ((Decides-eqb ch.0.agent_serial s.0).0 parts.1) in (
      unanswered ch.0,
      m.identity,
      record {
        event = serial_is i.entry.event s.0 s.1 ∙ ap Returned serial;
        agent = sym ((Decides-eqb ch.0.agent i.entry.caller).0 parts.0);
        pending = pending_back past legal ch.0 found.0;
        answered = answered_back past legal ch.0 found.0 m.identity m.answered;
        value = m.value;
        source = m.source;
        decides = m.decides;
        keeps = m.keeps;
        may = m.may;
      },
      sym n.2 ∙ ap (grant_row ch.0 i.entry.moment) (sym m.number),
    )

-- what the sentence says makes the temporary authorization
pub is_granted : (past : List Item) → Legal past → (i : Item) (o : Pending) (identity : Identity) → IsMade past i o identity → granted past i ≡ Some (grant_row o i.entry.moment (made past))
is_granted past legal i o identity g =
    let p = pending_forth past legal o g.pending in
    go p.0 p.1 p.2
  where
    go : (ch : Pending) → Has (pending past) ch → unanswered ch ≡ o → granted past i ≡ Some (grant_row o i.entry.moment (made past))
    go ch there same =
        let answered : ch.answered ≡ Some identity = answered_forth past legal ch there identity (subst (λ x. IsAnswered' x) (sym same) g.answered) in
        let test : ((ch.agent == i.entry.caller) && (ch.agent_serial == o.agent_serial)) ≡ true = ap (λ b. b && (ch.agent_serial == o.agent_serial)) ((Decides-eqb ch.agent i.entry.caller).1 (ap (λ (x : Pending). x.agent) same ∙ sym g.agent)) ∙ (Decides-eqb ch.agent_serial o.agent_serial).1 (ap (λ (x : Pending). x.agent_serial) same) in
        let found : at_agent past i.entry.caller o.agent_serial ≡ Some ch = find_only (λ (ch : Pending). (ch.agent == i.entry.caller) && (ch.agent_serial == o.agent_serial)) (pending past) (one_serial past legal i.entry.caller o.agent_serial) ch there test in
        let decides : decision_of past (kept past) i.entry.moment ch.key ch.action ≡ Some (Decision.Challenge g.value g.source) = ap (λ (x : Pending). decision_of past (kept past) i.entry.moment x.key x.action) same ∙ g.decides in
        let may : may_answer past g.value (uid_of_key ch.key) identity ≡ true = ap (λ (x : Pending). may_answer past g.value (uid_of_key x.key) identity) same ∙ g.may in
        ap (λ e. option_and_then (made_by past (kept past) (made past) i.entry.moment) (option_and_then (at_agent past i.entry.caller) (serial_returned e))) g.event
        ∙ ap (option_and_then (made_by past (kept past) (made past) i.entry.moment)) found
        ∙ ap (option_map (grant_row ch i.entry.moment)) (makes_verdict past (made past) i.entry.moment ch identity g.value g.source answered decides g.keeps may)
        ∙ ap (λ (x : Pending). Some (grant_row x i.entry.moment (made past))) same
      where
        IsAnswered' : Pending → Type 0
        IsAnswered' x = IsAnswered past x identity

-- the number of temporary authorizations made counts the items that make one, and nothing else does
pub made_counts : (past : List Item) → Legal past → MadeCount past (made past)
made_counts [] legal = refl
made_counts (i ∷ past) legal = of (granted past i) refl (made_counts past legal.1)
  where
    of : (o : Option GrantRow) → granted past i ≡ o → MadeCount past (made past) → MadeCount (i ∷ past) (made past + length (option_to_list o))
    of None e ih = inr ((λ m. absurd (cc (is_granted past legal.1 i m.0 m.1 m.2, e))), subst (MadeCount past) (omega arith) ih)
    of (Some row) e ih = let m = granted_is past legal.1 i row e in inl ((m.0, m.1, m.2), (made past, refl, ih))

pub counts_made : (past : List Item) → Legal past → (n : ℕ) → MadeCount past n → n ≡ made past
counts_made [] legal n h = h
counts_made (i ∷ past) legal n h = of (granted past i) refl (counts_made past legal.1) h
  where
    of : (o : Option GrantRow) → granted past i ≡ o → ((n : ℕ) → MadeCount past n → n ≡ made past) → MadeCount (i ∷ past) n → n ≡ made past + length (option_to_list o)
    of None e ih (inl h) = absurd (cc (is_granted past legal.1 i h.0.0 h.0.1 h.0.2, e))
    of None e ih (inr h) = ih n h.1 ∙ omega arith
    of (Some row) e ih (inl h) = h.1.1 ∙ ap (λ m. m + 1) (ih h.1.0 h.1.2)
    of (Some row) e ih (inr h) = let m = granted_is past legal.1 i row e in absurd (h.0 (m.0, m.1, m.2))

-- where a temporary authorization that was not ended was made
pub record Since (past : List Item) (row : GrantRow) : Type 0 where
  pub later : List Item
  pub i : Item
  pub before : List Item
  pub parts : past ≡ later ++ i ∷ before
  pub makes : granted before i ≡ Some row
  pub stands : NoneOf (λ past j. ends_grant past row j) later (i ∷ before)

since : (past : List Item) (row : GrantRow) → Has (kept past) row → Since past row
since [] row h = absurd h
since (i ∷ past) row h = of (since past row) (append_has (filter (λ g. not (ends_grant past g i)) (kept past)) (option_to_list (granted past i)) row h)
  where
    new : (o : Option GrantRow) → granted past i ≡ o → Has (option_to_list o) row → Since (i ∷ past) row
    new None e h = absurd h
    new (Some b) e (inl same) = record { later = []; i = i; before = past; parts = refl; makes = e ∙ ap Some same; stands = tt }
    new (Some b) e (inr h) = absurd h

    of : (Has (kept past) row → Since past row) → Has (filter (λ g. not (ends_grant past g i)) (kept past)) row ⊎ Has (option_to_list (granted past i)) row → Since (i ∷ past) row
    of ih (inl h) =
        let old = filter_has (λ g. not (ends_grant past g i)) (kept past) row h in
        let f = ih old.0 in
        record { later = i ∷ f.later; i = f.i; before = f.before; parts = ap (λ xs. i ∷ xs) f.parts; makes = f.makes; stands = (subst (λ xs. ends_grant xs row i ≡ false) f.parts (not_true (ends_grant past row i) old.1), f.stands) }
    of ih (inr h) = new (granted past i) refl h

stands_kept : (later : List Item) (i : Item) (before : List Item) (row : GrantRow) → granted before i ≡ Some row → NoneOf (λ past j. ends_grant past row j) later (i ∷ before) → Has (kept (later ++ i ∷ before)) row
stands_kept [] i before row makes h = has_right (filter (λ g. not (ends_grant before g i)) (kept before)) (option_to_list (granted before i)) row (subst (λ o. Has (option_to_list o) row) (sym makes) (inl refl))
stands_kept (j ∷ later) i before row makes h =
    let past : List Item = later ++ i ∷ before in
    has_left (filter (λ g. not (ends_grant past g j)) (kept past)) (option_to_list (granted past j)) row
    (filter_in (λ g. not (ends_grant past g j)) (kept past) row (stands_kept later i before row makes h.1) (ap not h.0))

legal_part : (later : List Item) (i : Item) (before : List Item) → Legal (later ++ i ∷ before) → Legal before
legal_part [] i before legal = legal.1
legal_part (x ∷ later) i before legal = legal_part later i before legal.1

-- a temporary authorization in the list that serves a key and an action is live, as looking back finds it
pub live_back : (past : List Item) → Legal past → (row : GrantRow) (key : Key) (action : Bytes) (t : ℕ) → Has (kept past) row → serves key action t row ≡ true → IsLiveGrant past row.id key action t
live_back past legal row key action t h serve =
    let f = since past row h in
    let legal' = legal_part f.later f.i f.before (subst Legal f.parts legal) in
    let m = granted_is f.before legal' f.i row f.makes in
    let outer = both (same_key row.key key && bytes_eq row.action action) (nat_lt t row.expires) serve in
    let inner = both (same_key row.key key) (bytes_eq row.action action) outer.0 in
    let number : made f.before ≡ row.id = sym (ap (λ (r : GrantRow). r.id) m.3) in
    record {
      later = f.later;
      i = f.i;
      before = f.before;
      parts = f.parts;
      o = m.0;
      identity = m.1;
      made = m.2;
      number = subst (MadeCount f.before) number (made_counts f.before legal');
      key_is = sym (ap (λ (r : GrantRow). r.key) m.3) ∙ same_key_is row.key key inner.0;
      action_is = sym (ap (λ (r : GrantRow). r.action) m.3) ∙ (bytes_eq-Decides row.action action).0 inner.1;
      in_time = subst (λ n. t < n) (ap (λ (r : GrantRow). r.expires) m.3) ((Decides-ltb t row.expires).0 outer.1);
      stands = subst (λ (r : GrantRow). NoneOf (λ past j. ends_grant past r j) f.later (f.i ∷ f.before)) (m.3 ∙ ap (grant_row m.0 f.i.entry.moment) number) f.stands;
    }

-- a temporary authorization that looking back finds live is in the list, and serves
pub live_forth : (past : List Item) → Legal past → (g : ℕ) (key : Key) (action : Bytes) (t : ℕ) → IsLiveGrant past g key action t → (row : GrantRow) × Has (kept past) row × (serves key action t row ≡ true) × (row.id ≡ g)
live_forth past legal g key action t l =
    let legal' = legal_part l.later l.i l.before (subst Legal l.parts legal) in
    let makes = is_granted l.before legal' l.i l.o l.identity l.made in
    let number : made l.before ≡ g = sym (counts_made l.before legal' g l.number) in
    let makes' : granted l.before l.i ≡ Some (grant_row l.o l.i.entry.moment g) = makes ∙ ap (λ n. Some (grant_row l.o l.i.entry.moment n)) number in (
      grant_row l.o l.i.entry.moment g,
      subst (λ xs. Has (kept xs) (grant_row l.o l.i.entry.moment g)) (sym l.parts) (stands_kept l.later l.i l.before (grant_row l.o l.i.entry.moment g) makes' l.stands),
      ap (λ b. b && bytes_eq l.o.action action && nat_lt t (l.i.entry.moment + 300)) (ap (λ k. same_key k key) l.key_is ∙ same_key_refl key)
          ∙ ap (λ b. b && nat_lt t (l.i.entry.moment + 300)) ((bytes_eq-Decides l.o.action action).1 l.action_is)
          ∙ (Decides-ltb t (l.i.entry.moment + 300)).1 l.in_time,
      refl,
    )

-- a live temporary authorization is one that looking back finds, and back
pub live_both : (past : List Item) → Legal past → (g : ℕ) (key : Key) (action : Bytes) (t : ℕ) → ((row : GrantRow) × Has (kept past) row × (serves key action t row ≡ true) × (row.id ≡ g) → IsLiveGrant past g key action t) × (IsLiveGrant past g key action t → (row : GrantRow) × Has (kept past) row × (serves key action t row ≡ true) × (row.id ≡ g))
live_both past legal g key action t = ((λ r. subst (λ n. IsLiveGrant past n key action t) r.3 (live_back past legal r.0 key action t r.1 r.2)), live_forth past legal g key action t)

-- the number of temporary authorizations made is the one that looking back counts, and back
pub made_both : (past : List Item) → Legal past → (n : ℕ) → (n ≡ made past → MadeCount past n) × (MadeCount past n → n ≡ made past)
made_both past legal n = ((λ e. subst (MadeCount past) (sym e) (made_counts past legal)), counts_made past legal n)
