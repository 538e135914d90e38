-- A temporary authorization that nothing ended is the one that its text names.
use Rattle.std.proofs.Common.{◌≡◌, ℕ, ◌==◌, ◌+◌, ◌<◌, ◌≤◌, ◌^◌, true, List, [], ◌∷◌, refl, ap, sym, ◌∙◌, Option, Some, None, length, arith}
use Rattle.std.proofs.lemmas.Bool.Decides.{Decides-eqb}
use Rattle.std.proofs.lemmas.Fmt.{decimal_injective}
use Rattle.std.proofs.lemmas.Slice.Eq.{bytes_eq-Decides}
use Rattle.std.specs.Prelude.{bytes_eq, drop, option_to_list}
use Rattle.authority_model.specs.declared.journal.Item.{Item}
use Rattle.authority_model.specs.declared.verdict.GrantRow.{GrantRow}
use Rattle.authority_model.specs.Words.{Bytes}
use Rattle.authority_model.specs.Lists.{Has}
use Rattle.authority_model.specs.Cookies.{grant_text}
use Rattle.authority_model.specs.Grants.{kept, made, granted}
use Rattle.entry_changes.specs.Changes.{grant_named}
use Rattle.authority_model.specs.Legal.{Legal}
use Rattle.authority_model.proofs.Cases.{find_has}
use Rattle.authority_laws.proofs.GrantNumbers.{numbers_below, one_number}
use Rattle.authority_laws.proofs.OnlyOne.{find_only, none_passes}

-- an item makes at most one temporary authorization
pub made_bound : (past : List Item) → made past ≤ length past
made_bound [] = omega arith
made_bound (i ∷ past) = of (granted past i) (made_bound past)
  where
    of : (o : Option GrantRow) → made past ≤ length past → made past + length (option_to_list o) ≤ length (i ∷ past)
    of None h = omega (arith, h)
    of (Some row) h = omega (arith, h)

-- numbers of one text are one
pub same_text : (m n : ℕ) → m < 2 ^ 64 → n < 2 ^ 64 → grant_text m ≡ grant_text n → m ≡ n
same_text m n small small' e = decimal_injective m n small small' (ap (drop 8) e)

-- the one that a text names is the one whose text it is
pub named_is : (past : List Item) → Legal past → length past < 2 ^ 63 → (g : GrantRow) → Has (kept past) g → (id : Bytes) → bytes_eq id (grant_text g.id) ≡ true → grant_named id (kept past) ≡ Some g
named_is past legal short g h id t = of (grant_named id (kept past)) refl
  where
    one : (r : GrantRow) → Has (kept past) r → r.id ≡ g.id → r ≡ g
    one r there same =
        let first = find_only (λ (x : GrantRow). x.id == g.id) (kept past) (one_number past legal g.id) r there ((Decides-eqb r.id g.id).1 same) in
        let second = find_only (λ (x : GrantRow). x.id == g.id) (kept past) (one_number past legal g.id) g h ((Decides-eqb g.id g.id).1 refl) in
        cc (first, second)

    of : (o : Option GrantRow) → grant_named id (kept past) ≡ o → o ≡ Some g
    of None is = let out = none_passes (λ (x : GrantRow). bytes_eq id (grant_text x.id)) (kept past) is g h in absurd (cc (out, t))
    of (Some r) is =
        let found = find_has (λ (x : GrantRow). bytes_eq id (grant_text x.id)) (kept past) r is in
        let texts : grant_text r.id ≡ grant_text g.id = sym ((bytes_eq-Decides id (grant_text r.id)).0 found.1) ∙ (bytes_eq-Decides id (grant_text g.id)).0 t in
        let bound = made_bound past in
        let below = numbers_below past legal r found.0 in
        let below' = numbers_below past legal g h in
        ap Some (one r found.0 (same_text r.id g.id (omega (arith, below, bound, short)) (omega (arith, below', bound, short)) texts))
