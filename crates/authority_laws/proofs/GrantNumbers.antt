-- The numbers of temporary authorizations, and their keys.
use Rattle.std.proofs.Common.{◌≡◌, ℕ, ◌==◌, ◌+◌, ◌<◌, Bool, true, false, not, List, [], ◌∷◌, ◌++◌, refl, ap, sym, ◌∙◌, inl, inr, ◌⊎◌, Option, Some, None, subst, length, arith}
use Rattle.std.proofs.lemmas.Bool.Decides.{Decides-eqb}
use Rattle.std.proofs.lemmas.List.{append-nil}
use Rattle.std.specs.Prelude.{filter, option_to_list}
use Rattle.authority_model.specs.declared.verdict.GrantRow.{GrantRow}
use Rattle.authority_model.specs.declared.journal.Item.{Item}
use Rattle.authority_model.specs.declared.pending.Pending.{Pending}
use Rattle.authority_model.specs.Lists.{Has, AtMostOne}
use Rattle.authority_model.specs.Worlds.{lists_key}
use Rattle.authority_model.specs.Items.{world_of}
use Rattle.authority_model.specs.Agents.{unlists}
use Rattle.authority_model.specs.Grants.{kept, made, granted, ends_grant, revokes}
use Rattle.authority_model.specs.Legal.{Legal}
use Rattle.authority_model.proofs.Cases.{append_has, filter_has}
use Rattle.authority_laws.proofs.OnlyOne.{find_none, one_filter, one_append}
use Rattle.authority_laws.proofs.GrantsBack.{granted_is}
use Rattle.authority_laws.proofs.PendingBack.{pending_forth}
use Rattle.authority_laws.proofs.ListedKeys.{listed_step, listed_beside, unloaded, pending_listed}
use Rattle.authority_laws.proofs.Standing.{not_true, neither}

-- a new temporary authorization has the next number
pub number_of_new : (past : List Item) → Legal past → (i : Item) (row : GrantRow) → granted past i ≡ Some row → row.id ≡ made past
number_of_new past legal i row e = let m = granted_is past legal i row e in ap (λ (r : GrantRow). r.id) m.3

-- each temporary authorization that was not ended has a number below the count
pub numbers_below : (past : List Item) → Legal past → (row : GrantRow) → Has (kept past) row → row.id < made past
numbers_below [] legal row h = absurd h
numbers_below (i ∷ past) legal row h = of (granted past i) refl (numbers_below past legal.1 row) (append_has (filter (λ g. not (ends_grant past g i)) (kept past)) (option_to_list (granted past i)) row h)
  where
    of : (o : Option GrantRow) → granted past i ≡ o → (Has (kept past) row → row.id < made past) → Has (filter (λ g. not (ends_grant past g i)) (kept past)) row ⊎ Has (option_to_list (granted past i)) row → row.id < made past + length (option_to_list o)
    of o e ih (inl h) = let old : row.id < made past = ih (filter_has (λ g. not (ends_grant past g i)) (kept past) row h).0 in omega arith
    of None e ih (inr h) = absurd (subst (λ o. Has (option_to_list o) row) e h)
    of (Some new) e ih (inr h) = of_new (subst (λ o. Has (option_to_list o) row) e h)
      where
        of_new : (new ≡ row) ⊎ ⊥ → row.id < made past + 1
        of_new (inl same) = let n : row.id ≡ made past = number_of_new past legal.1 i row (e ∙ ap Some same) in omega (arith, n)
        of_new (inr none) = absurd none

-- at most one temporary authorization has a number
pub one_number : (past : List Item) → Legal past → (n : ℕ) → AtMostOne (λ g. g.id == n) (kept past)
one_number [] legal n = tt
one_number (i ∷ past) legal n = of (granted past i) refl (one_filter (λ (g : GrantRow). g.id == n) (λ g. ends_grant past g i) (kept past) (one_number past legal.1 n))
  where
    none : (row : GrantRow) → granted past i ≡ Some row → (row.id == n) ≡ true → (g : GrantRow) → Has (filter (λ g. not (ends_grant past g i)) (kept past)) g → (g.id == n) ≡ false
    none row e t g h = go (g.id == n) refl
      where
        go : (b : Bool) → (g.id == n) ≡ b → b ≡ false
        go false is = refl
        go true is =
            let old = numbers_below past legal.1 g (filter_has (λ g. not (ends_grant past g i)) (kept past) g h).0 in
            let new = number_of_new past legal.1 i row e in
            let x : row.id ≡ n = (Decides-eqb row.id n).0 t in
            let y : g.id ≡ n = (Decides-eqb g.id n).0 is in
            absurd (omega (arith, old, new, x, y))

    of : (o : Option GrantRow) → granted past i ≡ o → AtMostOne (λ g. g.id == n) (filter (λ g. not (ends_grant past g i)) (kept past)) → AtMostOne (λ g. g.id == n) (filter (λ g. not (ends_grant past g i)) (kept past) ++ option_to_list o)
    of None e old = subst (AtMostOne (λ (g : GrantRow). g.id == n)) (sym (append-nil (filter (λ g. not (ends_grant past g i)) (kept past)))) old
    of (Some row) e old = one_append (λ (g : GrantRow). g.id == n) (filter (λ g. not (ends_grant past g i)) (kept past)) row old (λ t. find_none (λ (g : GrantRow). g.id == n) (filter (λ g. not (ends_grant past g i)) (kept past)) (none row e t))

-- the keys of the temporary authorizations are listed
pub grants_listed : (past : List Item) → Legal past → (row : GrantRow) → Has (kept past) row → lists_key (world_of past) row.key ≡ true
grants_listed [] legal row h = absurd h
grants_listed (i ∷ past) legal row h = of (grants_listed past legal.1 row) (append_has (filter (λ g. not (ends_grant past g i)) (kept past)) (option_to_list (granted past i)) row h)
  where
    made' : granted past i ≡ Some row → lists_key (world_of (i ∷ past)) row.key ≡ true
    made' e =
        let m = granted_is past legal.1 i row e in
        let p = pending_forth past legal.1 m.0 m.2.pending in
        let key : p.0.key ≡ row.key = ap (λ (ch : Pending). ch.key) p.2 ∙ sym (ap (λ (r : GrantRow). r.key) m.3) in
        listed_beside past i row.key (unloaded past i legal.0 _ m.2.event refl) (subst (λ k. lists_key (world_of past) k ≡ true) key (pending_listed past legal.1 p.0 p.1).0)

    new : (o : Option GrantRow) → granted past i ≡ o → Has (option_to_list o) row → lists_key (world_of (i ∷ past)) row.key ≡ true
    new None e h = absurd h
    new (Some b) e (inl same) = made' (e ∙ ap Some same)
    new (Some b) e (inr h) = absurd h

    of : (Has (kept past) row → lists_key (world_of past) row.key ≡ true) → Has (filter (λ g. not (ends_grant past g i)) (kept past)) row ⊎ Has (option_to_list (granted past i)) row → lists_key (world_of (i ∷ past)) row.key ≡ true
    of ih (inl h) =
        let old = filter_has (λ g. not (ends_grant past g i)) (kept past) row h in
        listed_step past i row.key (neither (revokes past row i) (unlists row.key i) (not_true (ends_grant past row i) old.1)).1 (ih old.0)
    of ih (inr h) = new (granted past i) refl h
