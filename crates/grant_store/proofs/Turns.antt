-- Where grants expire in their order, those that have expired stand first.
use Rattle.std.proofs.Common.{◌≡◌, ℕ, zero, suc, ◌<◌, ◌≤◌, ◌-◌, Bool, false, cond, List, [], ◌∷◌, Some, length, refl, sym, ap, ◌∙◌, subst, arith}
use Rattle.std.specs.Prelude.{find, drop, take, slice_get}
use Rattle.std.specs.Option.{option_map}
use Rattle.std.proofs.lemmas.Option.{get_or_from_slice_get, slice_get-map}
use Rattle.std.specs.List.{slice_index_or, AllWithin}
use Rattle.std.specs.List.Sorted.{IsNonDecreasingBy}
use Rattle.std.specs.Map.{values_of}
use Rattle.std.proofs.lemmas.List.{length-map, get_or-map, drop-map, take_rest}
use Rattle.authority_model.specs.declared.verdict.GrantRow.{GrantRow}
use Rattle.grant_store.specs.Rows.{AreInTurn}

-- the rows under their numbers expire in their order too
pub under_numbers : (rows : List (ℕ × GrantRow)) → AreInTurn (values_of rows) → IsNonDecreasingBy (λ (e : ℕ × GrantRow). e.1.expires) rows
under_numbers rows turn i j d le lt =
    let one = get_or-map (λ (e : ℕ × GrantRow). e.1) rows i d d.1 (omega (arith, le, lt)) in
    let two = get_or-map (λ (e : ℕ × GrantRow). e.1) rows j d d.1 lt in
    subst (λ (x : GrantRow). x.expires ≤ (slice_index_or rows j d).1.expires) one (subst (λ (y : GrantRow). (slice_index_or (values_of rows) i d.1).expires ≤ y.expires) two (turn i j d.1 le (subst (λ n. j < n) (sym (length-map rows (λ (e : ℕ × GrantRow). e.1))) lt)))

-- a search need not look at the rows before a place where none of those passes
pub find_behind : (test : GrantRow → Bool) (rows : List (ℕ × GrantRow)) (n : ℕ) → AllWithin (λ (e : ℕ × GrantRow). test e.1 ≡ false) rows 0 n → find test (drop n (values_of rows)) ≡ find test (values_of rows)
find_behind test [] zero none = refl
find_behind test [] (suc n) none = refl
find_behind test (e ∷ rows) zero none = refl
find_behind test (e ∷ rows) (suc n) none =
    find_behind test rows n (λ k d low high. none (suc k) d (omega arith) (omega (arith, high)))
    ∙ ap (λ b. cond b (Some e.1) (find test (values_of rows))) (sym (none 0 e (omega arith) (omega arith)))

-- the values of the rows from a place on
pub values_behind : (rows : List (ℕ × GrantRow)) (n : ℕ) → values_of (take (length rows - n) (drop n rows)) ≡ drop n (values_of rows)
values_behind rows n = ap values_of (take_rest rows n) ∙ sym (drop-map (λ (e : ℕ × GrantRow). e.1) n rows)

-- the last value is that of the last row
pub last_value : (rows : List (ℕ × GrantRow)) (e : ℕ × GrantRow) (d : GrantRow) → Some e ≡ slice_get rows (length rows - 1) → slice_index_or (values_of rows) (length (values_of rows) - 1) d ≡ e.1
last_value rows e d is =
    get_or_from_slice_get (values_of rows) (length (values_of rows) - 1) e.1 d
    (ap (λ n. slice_get (values_of rows) (n - 1)) (length-map rows (λ (x : ℕ × GrantRow). x.1)) ∙ slice_get-map (λ (x : ℕ × GrantRow). x.1) rows (length rows - 1) ∙ ap (option_map (λ (x : ℕ × GrantRow). x.1)) (sym is))
