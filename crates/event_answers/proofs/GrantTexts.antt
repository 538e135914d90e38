-- Each text names at most one of the grants that nothing ended, since their numbers rise.
use Rattle.std.proofs.Common.{◌≡◌, ℕ, ◌+◌, ◌<◌, ◌≤◌, ◌^◌, ◌&&◌, Bool, true, false, not, List, [], ◌∷◌, ◌++◌, refl, ap, sym, ◌∙◌, Option, Some, None, subst, length, arith}
use Rattle.std.specs.Prelude.{if◌then◌else◌, bytes_eq, codes, decimal, filter, find, option_to_list}
use Rattle.std.specs.Option.{option_map_or}
use Rattle.std.proofs.lemmas.Fmt.{decimal_injective}
use Rattle.std.proofs.lemmas.List.{append-nil}
use Rattle.std.proofs.lemmas.Slice.Eq.{bytes_eq-Decides}
use Rattle.std.specs.Prelude.{⊤}
use Rattle.pk_types.specs.declared.values.Identity.{Identity}
use Rattle.authority_model.specs.declared.journal.Item.{Item}
use Rattle.authority_model.specs.declared.pending.Pending.{Pending}
use Rattle.authority_model.specs.declared.verdict.GrantRow.{GrantRow}
use Rattle.authority_model.specs.declared.verdict.Reason.{Reason}
use Rattle.authority_model.specs.Lists.{Each, when}
use Rattle.authority_model.specs.Words.{Bytes}
use Rattle.authority_model.specs.Values.{is_keep}
use Rattle.authority_model.specs.Keys.{uid_of_key}
use Rattle.authority_model.specs.Cookies.{grant_text}
use Rattle.entry_changes.specs.Changes.{grant_named}
use Rattle.authority_model.specs.Deciding.{Decision, decision_of, is_live_at}
use Rattle.authority_model.specs.Verdicts.{redecided, answered_verdict, return_verdict, granted_by, no_by, may_answer}
use Rattle.authority_model.specs.Grants.{kept, made, granted, made_by, returned, grant_row, ends_grant}
use Rattle.authority_model.proofs.Cases.{by_test, by_option, map_some, then_some, when_some, Each-append}

-- the number of the grant in a verdict on a return
number_in : (past : List Item) (rows : List GrantRow) (n t : ℕ) (ch : Pending) (m : ℕ) → (return_verdict past rows n t ch).grant ≡ Some m → n ≡ m
number_in past rows n t ch m = by_option (λ v. v.grant ≡ Some m → n ≡ m) (answered_verdict past rows n t ch) ch.answered (no_by Reason.Challenge) (λ _ e. absurd (cc)) (λ id _.
    by_option (λ v. v.grant ≡ Some m → n ≡ m) (redecided past n ch.key id) (decision_of past rows t ch.key ch.action) (no_by Reason.ActionGone) (λ _ e. absurd (cc)) (λ d _. of id d))
  where
    of : (id : Identity) (d : Decision) → (redecided past n ch.key id d).grant ≡ Some m → n ≡ m
    of id (Decision.Challenge value source) e = by_test (λ v. v.grant ≡ Some m → n ≡ m) (may_answer past value (uid_of_key ch.key) id) (granted_by (when (is_keep value) n)) (no_by Reason.IdentityGone) (λ _ e. (when_some (is_keep value) n m e).1) (λ _ e. absurd (cc)) e
    of id Decision.Root e = absurd (cc)
    of id (Decision.Yes source) e = absurd (cc)
    of id (Decision.Granted g) e = absurd (cc)
    of id (Decision.Imply b) e = absurd (cc)
    of id (Decision.No source) e = absurd (cc)

-- a new grant has the next number
number_of_new : (past : List Item) (i : Item) (row : GrantRow) → granted past i ≡ Some row → made past ≡ row.id
number_of_new past i row e =
    let ch = then_some (made_by past (kept past) (made past) i.entry.moment) (returned past i) row e in
    let n = map_some (grant_row ch.0 i.entry.moment) (return_verdict past (kept past) (made past) i.entry.moment ch.0).grant row ch.2 in
    number_in past (kept past) (made past) i.entry.moment ch.0 n.0 n.1 ∙ ap (λ (r : GrantRow). r.id) n.2

-- the numbers rise, and are below a count
abbrev RisesBelow : ℕ → List GrantRow → Type 0
RisesBelow n [] = ⊤
RisesBelow n (g ∷ gs) = (g.id < n) × Each (λ h. g.id < h.id) gs × RisesBelow n gs

each_filter : (P : GrantRow → Type 0) (p : GrantRow → Bool) (gs : List GrantRow) → Each P gs → Each P (filter p gs)
each_filter P p [] all = tt
each_filter P p (g ∷ gs) all = go (p g) (each_filter P p gs all.1)
  where
    go : (b : Bool) → Each P (filter p gs) → Each P (if b then (g ∷ filter p gs) else filter p gs)
    go true rest = (all.0, rest)
    go false rest = rest

rises_filter : (n : ℕ) (p : GrantRow → Bool) (gs : List GrantRow) → RisesBelow n gs → RisesBelow n (filter p gs)
rises_filter n p [] h = tt
rises_filter n p (g ∷ gs) h = go (p g) (each_filter (λ x. g.id < x.id) p gs h.1) (rises_filter n p gs h.2)
  where
    go : (b : Bool) → Each (λ x. g.id < x.id) (filter p gs) → RisesBelow n (filter p gs) → RisesBelow n (if b then (g ∷ filter p gs) else filter p gs)
    go true above rest = (h.0, above, rest)
    go false above rest = rest

rises_append : (n : ℕ) (gs : List GrantRow) (row : GrantRow) → RisesBelow n gs → n ≡ row.id → RisesBelow (n + 1) (gs ++ row ∷ [])
rises_append n [] row h is = (omega arith, tt, tt)
rises_append n (g ∷ gs) row h is =
    let below : g.id < n = h.0 in
    (omega arith, Each-append (λ x. g.id < x.id) gs (row ∷ []) h.1 (omega arith, tt), rises_append n gs row h.2 is)

kept_rises : (past : List Item) → RisesBelow (made past) (kept past)
kept_rises [] = tt
kept_rises (i ∷ past) = of (granted past i) refl (rises_filter (made past) (λ g. not (ends_grant past g i)) (kept past) (kept_rises past))
  where
    of : (o : Option GrantRow) → granted past i ≡ o → RisesBelow (made past) (filter (λ g. not (ends_grant past g i)) (kept past)) → RisesBelow (made past + length (option_to_list o)) (filter (λ g. not (ends_grant past g i)) (kept past) ++ option_to_list o)
    of None e h =
        let n : made past ≡ made past + 0 = omega arith in
        subst (λ m. RisesBelow m (filter (λ g. not (ends_grant past g i)) (kept past) ++ [])) n (subst (RisesBelow (made past)) (sym (append-nil (filter (λ g. not (ends_grant past g i)) (kept past)))) h)
    of (Some row) e h = rises_append (made past) (filter (λ g. not (ends_grant past g i)) (kept past)) row h (number_of_new past i row e)

-- a text names one number
same_number : (id : Bytes) (a b : ℕ) → a < 2 ^ 64 → b < 2 ^ 64 → bytes_eq id (grant_text a) ≡ true → bytes_eq id (grant_text b) ≡ true → a ≡ b
same_number id a b m n x y =
    let one : id ≡ codes "tmpauthz" ++ decimal a = (bytes_eq-Decides id (grant_text a)).0 x in
    let other : id ≡ codes "tmpauthz" ++ decimal b = (bytes_eq-Decides id (grant_text b)).0 y in
    let texts : codes "tmpauthz" ++ decimal a ≡ codes "tmpauthz" ++ decimal b = sym one ∙ other in
    let digits : decimal a ≡ decimal b = cc texts in
    decimal_injective a b m n digits

module _ (id : Bytes) (t n : ℕ) (small : n ≤ 2 ^ 64) where
  none_later : (a : ℕ) → a < n → bytes_eq id (grant_text a) ≡ true → (gs : List GrantRow) → Each (λ x. a < x.id) gs → RisesBelow n gs → find (λ g. bytes_eq id (grant_text g.id) && is_live_at t g) gs ≡ None
  none_later a below is [] above rises = refl
  none_later a below is (g ∷ gs) above rises = go (bytes_eq id (grant_text g.id)) refl (none_later a below is gs above.1 rises.2)
    where
      go : (b : Bool) → bytes_eq id (grant_text g.id) ≡ b → find (λ g. bytes_eq id (grant_text g.id) && is_live_at t g) gs ≡ None → (if b && is_live_at t g then Some g else find (λ g. bytes_eq id (grant_text g.id) && is_live_at t g) gs) ≡ None
      go true names rest =
          let here : g.id < n = rises.0 in
          let more : a < g.id = above.0 in
          let same : a ≡ g.id = same_number id a g.id (omega arith) (omega arith) is names in
          absurd (omega arith)
      go false names rest = rest

  once : (gs : List GrantRow) → RisesBelow n gs → (g : GrantRow) → grant_named id gs ≡ Some g → find (λ g. bytes_eq id (grant_text g.id) && is_live_at t g) gs ≡ (if is_live_at t g then Some g else None)
  once [] rises g e = absurd (cc)
  once (x ∷ xs) rises g e = go (bytes_eq id (grant_text x.id)) refl (once xs rises.2 g) e
    where
      first : bytes_eq id (grant_text x.id) ≡ true → (l : Bool) → (if l then Some x else find (λ g. bytes_eq id (grant_text g.id) && is_live_at t g) xs) ≡ (if l then Some x else None)
      first names true = refl
      first names false = none_later x.id rises.0 names xs rises.1 rises.2

      go : (b : Bool) → bytes_eq id (grant_text x.id) ≡ b → (grant_named id xs ≡ Some g → find (λ g. bytes_eq id (grant_text g.id) && is_live_at t g) xs ≡ (if is_live_at t g then Some g else None)) → (if b then Some x else find (λ g. bytes_eq id (grant_text g.id)) xs) ≡ Some g → (if b && is_live_at t x then Some x else find (λ g. bytes_eq id (grant_text g.id) && is_live_at t g) xs) ≡ (if is_live_at t g then Some g else None)
      go true names rest e = let same : x ≡ g = cc e in first names (is_live_at t x) ∙ ap (λ (y : GrantRow). if is_live_at t y then Some y else None) same
      go false names rest e = rest e

-- where a text names a kept grant, that is the only one, and it is found by its text among those that are live at a moment if it is
pub named_live : (past : List Item) (id : Bytes) (t : ℕ) (g : GrantRow) → made past < 2 ^ 64 → grant_named id (kept past) ≡ Some g → find (λ g. bytes_eq id (grant_text g.id) && is_live_at t g) (kept past) ≡ (if is_live_at t g then Some g else None)
named_live past id t g small e = once id t (made past) (omega arith) (kept past) (kept_rises past) g e

-- where it names none, there is none either that is live
pub none_named : (id : Bytes) (t : ℕ) (gs : List GrantRow) → grant_named id gs ≡ None → find (λ g. bytes_eq id (grant_text g.id) && is_live_at t g) gs ≡ None
none_named id t [] e = refl
none_named id t (x ∷ xs) e = go (bytes_eq id (grant_text x.id)) (none_named id t xs) e
  where
    go : (b : Bool) → (grant_named id xs ≡ None → find (λ g. bytes_eq id (grant_text g.id) && is_live_at t g) xs ≡ None) → (if b then Some x else find (λ g. bytes_eq id (grant_text g.id)) xs) ≡ None → (if b && is_live_at t x then Some x else find (λ g. bytes_eq id (grant_text g.id) && is_live_at t g) xs) ≡ None
    go true rest e = absurd (cc e)
    go false rest e = rest e

-- the same of what is told of it
pub revoke_told : {A : Type 0} (past : List Item) (id : Bytes) (t : ℕ) (g : GrantRow) → made past < 2 ^ 64 → grant_named id (kept past) ≡ Some g → (f : GrantRow → A) (none : A) → (if is_live_at t g then f g else none) ≡ option_map_or f (find (λ g. bytes_eq id (grant_text g.id) && is_live_at t g) (kept past)) none
revoke_told {A} past id t g small e f none = go (is_live_at t g) ∙ sym (ap (λ (o : Option GrantRow). option_map_or f o none) (named_live past id t g small e))
  where
    go : (b : Bool) → (if b then f g else none) ≡ option_map_or f (if b then Some g else None) none
    go true = refl
    go false = refl

pub none_told : {A : Type 0} (id : Bytes) (t : ℕ) (gs : List GrantRow) → grant_named id gs ≡ None → (f : GrantRow → A) (none : A) → none ≡ option_map_or f (find (λ g. bytes_eq id (grant_text g.id) && is_live_at t g) gs) none
none_told id t gs e f none = sym (ap (λ (o : Option GrantRow). option_map_or f o none) (none_named id t gs e))
