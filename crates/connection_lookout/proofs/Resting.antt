-- A load ends the temporary authorizations whose keys it does not list, for good.
use Rattle.std.proofs.Common.{◌≡◌, ◌⊎◌, ◌+◌, ◌≤◌, ◌<◌, ◌||◌, ◌&&◌, ◌==◌, ℕ, Bool, true, false, not, cond, List, [], ◌∷◌, ◌++◌, Option, Some, None, refl, ap, sym, ◌∙◌, subst, length, arith, inl, inr}
use Rattle.std.specs.Prelude.{filter, option_to_list}
use Rattle.authority_core.specs.Unlisting.{is_process}
use Rattle.authority_laws.proofs.GrantNumbers.{number_of_new}
use Rattle.authority_laws.proofs.Standing.{neither, not_true}
use Rattle.authority_model.proofs.Cases.{append_has, filter_has}
use Rattle.authority_model.specs.declared.journal.Item.{Item}
use Rattle.authority_model.specs.declared.key.Key.{Key}
use Rattle.authority_model.specs.declared.verdict.GrantRow.{GrantRow}
use Rattle.authority_model.specs.declared.verdict.Reason.{Reason}
use Rattle.authority_model.specs.declared.verdict.Verdict.{Verdict}
use Rattle.authority_model.specs.declared.world.Process.{Process as ProcessRow}
use Rattle.authority_model.specs.Agents.{unlists}
use Rattle.authority_model.specs.Facts.{Facts}
use Rattle.authority_model.specs.Grants.{ends_grant, granted, kept, made, revokes}
use Rattle.authority_model.specs.Items.{loaded_of}
use Rattle.authority_model.specs.Legal.{Legal}
use Rattle.authority_model.specs.Licensed.{Licensed, MayAnswer, OwnPermits, Permits}
use Rattle.authority_model.specs.Lists.{Has, any_of}
use Rattle.authority_model.specs.Words.{Bytes}
use Rattle.connection_lookout.specs.Resting.{OwnRestsOn, RedecidedRestsOn, RestsOn, WasMade, YesRestsOn}
use Rattle.connection_lookout.specs.Unlistings.{IsUnlisting}

-- a longer history has made no fewer
made_on : (later past : List Item) → made past ≤ made (later ++ past)
made_on [] past = omega arith
made_on (i ∷ later) past =
    let rest = made_on later past in
    let more : made (i ∷ later ++ past) ≡ made (later ++ past) + length (option_to_list (granted (later ++ past) i)) = refl in
    omega (arith, rest, more)

-- an earlier history of a legal one is legal
legal_before : (later past : List Item) → Legal (later ++ past) → Legal past
legal_before [] past legal = legal
legal_before (i ∷ later) past legal = legal_before later past legal.1

-- one that was made in a history has a number below the count
made_below : (past : List Item) (row : GrantRow) → Legal past → WasMade past row → row.id < made past
made_below past row legal w =
    let parts : Legal (w.later ++ w.item ∷ w.before) = subst Legal w.parts legal in
    let at : Legal (w.item ∷ w.before) = legal_before w.later (w.item ∷ w.before) parts in
    let number = number_of_new w.before at.1 w.item row w.made in
    let one : made (w.item ∷ w.before) ≡ made w.before + 1 = ap (λ (o : Option GrantRow). made w.before + length (option_to_list o)) w.made in
    let on : made (w.item ∷ w.before) ≤ made (w.later ++ w.item ∷ w.before) = made_on w.later (w.item ∷ w.before) in
    let all : made past ≡ made (w.later ++ w.item ∷ w.before) = ap made w.parts in
    omega (arith, number, one, on, all)

-- a new one has no smaller number
not_new : (past : List Item) (i : Item) (row : GrantRow) → Legal past → row.id < made past → Has (option_to_list (granted past i)) row → ⊥
not_new past i row legal below h = of (granted past i) refl h
  where
    of : (o : Option GrantRow) → granted past i ≡ o → Has (option_to_list o) row → ⊥
    of None e x = x
    of (Some new) e (inl same) = let number = number_of_new past legal i row (e ∙ ap Some same) in absurd (omega (arith, number, below))
    of (Some new) e (inr none) = none

-- what is not kept is not kept behind one item more
gone_step : (past : List Item) (i : Item) (row : GrantRow) → Legal past → row.id < made past → (Has (kept past) row → ⊥) → Has (kept (i ∷ past)) row → ⊥
gone_step past i row legal below so h = either (append_has (filter (λ g. not (ends_grant past g i)) (kept past)) (option_to_list (granted past i)) row h)
  where
    either : Has (filter (λ g. not (ends_grant past g i)) (kept past)) row ⊎ Has (option_to_list (granted past i)) row → ⊥
    either (inl x) = so (filter_has (λ g. not (ends_grant past g i)) (kept past) row x).0
    either (inr x) = not_new past i row legal below x

-- what a load does not list is not kept behind it
gone : (later : List Item) (load : Item) (before : List Item) (row : GrantRow) → Legal (later ++ load ∷ before) → row.id < made before → unlists row.key load ≡ true → Has (kept (later ++ load ∷ before)) row → ⊥
gone [] load before row legal below out h = either (append_has (filter (λ g. not (ends_grant before g load)) (kept before)) (option_to_list (granted before load)) row h)
  where
    other : true ≡ false → ⊥
    other e = cc

    either : Has (filter (λ g. not (ends_grant before g load)) (kept before)) row ⊎ Has (option_to_list (granted before load)) row → ⊥
    either (inl x) = other (sym out ∙ (neither (revokes before row load) (unlists row.key load) (not_true (ends_grant before row load) (filter_has (λ g. not (ends_grant before g load)) (kept before) row x).1)).1)
    either (inr x) = not_new before load row legal.1 below x
gone (i ∷ later) load before row legal below out h =
    let past : List Item = later ++ load ∷ before in
    let on = made_on later (load ∷ before) in
    let one = made_on (load ∷ []) before in
    gone_step past i row legal.1 (omega (arith, below, on, one)) (gone later load before row legal.1 below out) h

module _ (later : List Item) (load : Item) (before : List Item) (row : GrantRow) (legal : Legal (later ++ load ∷ before)) (was : WasMade before row) (out : unlists row.key load ≡ true) where
  abbrev pub past : List Item
  past = later ++ load ∷ before

  is_gone : Has (kept past) row → ⊥
  is_gone h = gone later load before row legal (made_below before row (legal_before later (load ∷ before) legal).1 was) out h

  own_rests : (f : Facts) (a : Bytes) (t : ℕ) (p : OwnPermits past f a t) → OwnRestsOn past f a t p row → ⊥
  own_rests f a t (inl _) on = on
  own_rests f a t (inr (inl _)) on = on
  own_rests f a t (inr (inr (_, by))) on = is_gone (subst (Has (kept past)) on by.kept)

  rests : (f : Facts) (a : Bytes) (t : ℕ) (reason : Reason) (p : Permits past f a t reason) → RestsOn past f a t reason p row → ⊥
  rests f a t Reason.Root p on = on
  rests f a t (Reason.Default _) p on = on
  rests f a t (Reason.Entry _) p on = on
  rests f a t (Reason.Grant _) p on = is_gone (subst (Has (kept past)) on p.kept)
  rests f a t (Reason.Imply b) p on = own_rests f b t p.own on
  rests f a t Reason.Challenge p on = on
  rests f a t Reason.Dismissed p on = on
  rests f a t Reason.AgentGone p on = on
  rests f a t Reason.SubjectGone p on = on
  rests f a t Reason.ActionGone p on = on
  rests f a t Reason.IdentityGone p on = on

  redecided : (f : Facts) (a : Bytes) (t : ℕ) (reason : Reason) (MayBe : Type 0) (p : Permits past f a t reason ⊎ MayBe) → RedecidedRestsOn past f a t reason MayBe p row → ⊥
  redecided f a t reason MayBe (inl p) on = rests f a t reason p on
  redecided f a t reason MayBe (inr _) on = on

  pub yes_rests : (i : Item) (c serial : ℕ) (v : Verdict) (l : Licensed past i c serial v) → YesRestsOn past i c serial v l row → ⊥
  yes_rests i c serial v (inl by) on = rests by.f by.action i.entry.moment v.reason by.permits on
  yes_rests i c serial v (inr by) on = redecided by.f by.action i.entry.moment v.reason ((v.reason ≡ Reason.Challenge) × MayAnswer past by.f by.action by.identity) by.permits on

-- a load without a process lists none of its keys
no_key : (pid start uid : ℕ) (rows : List ProcessRow) → any_of (λ p. (p.pid == pid) && (p.start == start) && (p.uid == uid)) (filter (λ row. not (is_process pid start row)) rows) ≡ false
no_key pid start uid [] = refl
no_key pid start uid (row ∷ rows) = go (row.pid == pid) refl (row.start == start) refl (no_key pid start uid rows)
  where
    listed : ProcessRow → Bool
    listed = λ p. (p.pid == pid) && (p.start == start) && (p.uid == uid)

    others : List ProcessRow
    others = filter (λ row. not (is_process pid start row)) rows

    go : (a : Bool) → (row.pid == pid) ≡ a → (b : Bool) → (row.start == start) ≡ b → any_of listed others ≡ false → any_of listed (cond (not (a && b)) (row ∷ others) others) ≡ false
    go true p true s none = none
    go true p false s none = ap (λ (x : Bool). (x && (row.start == start) && (row.uid == uid)) || any_of listed others) p ∙ ap (λ (x : Bool). (x && (row.uid == uid)) || any_of listed others) s ∙ none
    go false p b s none = ap (λ (x : Bool). (x && (row.start == start) && (row.uid == uid)) || any_of listed others) p ∙ none

pub process_unlisted : (n : ℕ) (past : List Item) (i : Item) (p : ℕ × ℕ) (uid : ℕ) → IsUnlisting n past i p → unlists (Key.Process p.0 p.1 uid) i ≡ true
process_unlisted n past i p uid u = ap (unlists (Key.Process p.0 p.1 uid)) u.is_next ∙ ap not (no_key p.0 p.1 uid (loaded_of past).world.processes)
