-- The counted bytes of a journal's items are those of the journal.
use Rattle.std.proofs.Common.{◌≡◌, Bool, true, false, ℕ, ◌+◌, List, [], ◌∷◌, Some, None, refl, ap, sym, ◌∙◌, length, arith}
use Rattle.std.specs.Prelude.{reverse, sum_by}
use Rattle.std.proofs.lemmas.List.{reverse-append}
use Rattle.std.proofs.lemmas.List.Sums.{sum_by-cons, sum_by_push}
use Rattle.authority_model.specs.declared.journal.Entry.{Entry}
use Rattle.authority_model.specs.declared.journal.History.{History}
use Rattle.authority_model.specs.declared.load.Loaded.{Loaded}
use Rattle.authority_model.specs.Answers.{loads}
use Rattle.authority_model.specs.Costs.{bytes_of, cost_of_entry, cost_of_load}
use Rattle.authority_model.specs.Entering.{cost_of_item, counted_bytes}
use Rattle.authority_model.specs.Items.{paired, pair_up, is_load, items_of}
use Rattle.authority_model.proofs.LastLoad.{loads-reverse}

-- entries and the loads that they name cost what their items cost
paired_cost : (es : List Entry) (ls : List Loaded) → loads (paired es ls) ≡ length ls → sum_by cost_of_item (paired es ls) ≡ sum_by cost_of_entry es + sum_by cost_of_load ls
paired_cost [] [] n = refl
paired_cost [] (l ∷ ls) n = absurd (omega arith)
paired_cost (e ∷ es) ls n = go (is_load e.event) ls n (λ ls n. paired_cost es ls n)
  where
    go : (b : Bool) (ls : List Loaded) → loads (pair_up e b ls (paired es)) ≡ length ls → ((ls : List Loaded) → loads (paired es ls) ≡ length ls → sum_by cost_of_item (paired es ls) ≡ sum_by cost_of_entry es + sum_by cost_of_load ls)
        → sum_by cost_of_item (pair_up e b ls (paired es)) ≡ sum_by cost_of_entry (e ∷ es) + sum_by cost_of_load ls
    go false ls n ih =
        let first = sum_by-cons cost_of_item (record { entry = e; loaded = None }) (paired es ls) in
        let entry = sum_by-cons cost_of_entry e es in
        omega (arith, first, entry, ih ls (omega arith))
    go true [] n ih =
        let first = sum_by-cons cost_of_item (record { entry = e; loaded = None }) (paired es []) in
        let entry = sum_by-cons cost_of_entry e es in
        omega (arith, first, entry, ih [] (omega arith))
    go true (l ∷ ls) n ih =
        let first = sum_by-cons cost_of_item (record { entry = e; loaded = Some l }) (paired es ls) in
        let entry = sum_by-cons cost_of_entry e es in
        let load = sum_by-cons cost_of_load l ls in
        omega (arith, first, entry, load, ih ls (omega arith))

-- a sum does not depend on the direction
sum_reversed : {A : Type 0} (cost : A → ℕ) (xs : List A) → sum_by cost (reverse xs) ≡ sum_by cost xs
sum_reversed cost [] = refl
sum_reversed cost (x ∷ xs) =
    let turned = ap (sum_by cost) (reverse-append (x ∷ []) xs) in
    let last = sum_by_push cost (reverse xs) x in
    let first = sum_by-cons cost x xs in
    omega (arith, turned, last, first, sum_reversed cost xs)

pub counted_is : (h : History) → loads (items_of h) ≡ length h.loads → counted_bytes (items_of h) ≡ bytes_of h
counted_is h n = sum_reversed cost_of_item (paired h.entries h.loads) ∙ paired_cost h.entries h.loads (sym (loads-reverse (paired h.entries h.loads)) ∙ n)
