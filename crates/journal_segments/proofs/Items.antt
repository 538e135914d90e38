-- The lines of items written one after the other, as a loop does, and the bytes of items counted.
use Rattle.std.proofs.Common.{◌≡◌, ℕ, ◌+◌, ◌-◌, ◌≤◌, ◌<◌, ◌^◌, List, [], ◌∷◌, ◌++◌, length, drop, get_or, refl, sym, ap, ◌∙◌, append_assoc, append-nil, arith, add-one, drop-cons}
use Rattle.std.specs.Prelude.{min}
use Rattle.std.proofs.lemmas.List.{drop_all}
use Rattle.std.proofs.lemmas.List.Sums.{sum_by_push}
use Rattle.authority_model.specs.declared.journal.Item.{Item}
use Rattle.authority_model.specs.Entering.{cost_of_item, counted_bytes}
use Rattle.audit_text.specs.Pieces.{item_text}
use Rattle.journal_segments.specs.Text.{items_text}

-- one more item was written
pub item_written : (text new total : List ℕ) (items : List Item) (i : ℕ) (item : Item) → i < length items → item ≡ get_or items i item → new ≡ text ++ item_text item
    → text ++ items_text (drop i items) ≡ total → new ++ items_text (drop (i + 1) items) ≡ total
item_written text new total items i item lt is push so_far =
    let parts : drop i items ≡ item ∷ drop (i + 1) items = drop-cons items i item lt ∙ rw (← is, add-one) refl in
    ap (λ (t : List ℕ). t ++ items_text (drop (i + 1) items)) push
    ∙ append_assoc text (item_text item) (items_text (drop (i + 1) items))
    ∙ sym (ap (λ (vs : List Item). text ++ items_text vs) parts)
    ∙ so_far

pub all_written : (text total : List ℕ) (items : List Item) (i : ℕ) → length items ≤ i
    → text ++ items_text (drop i items) ≡ total → text ≡ total
all_written text total items i le so_far =
    let none : drop i items ≡ [] = drop_all i items le in
    sym (append-nil text) ∙ sym (ap (λ (vs : List Item). text ++ items_text vs) none) ∙ so_far

-- the bytes after one more item, as a number that stands still at its greatest value
pub bytes_push : (items : List Item) (i : Item) (bytes cost : ℕ) → bytes ≡ min (counted_bytes items) (2 ^ 64 - 1) → cost ≡ cost_of_item i
    → min (bytes + cost) (2 ^ 64 - 1) ≡ min (counted_bytes (items ++ i ∷ [])) (2 ^ 64 - 1)
bytes_push items i bytes cost b k = go (counted_bytes items) (cost_of_item i) bytes cost (counted_bytes (items ++ i ∷ [])) b k (sum_by_push cost_of_item items i)
  where
    go : (n m bytes cost all : ℕ) → bytes ≡ min n (2 ^ 64 - 1) → cost ≡ m → all ≡ n + m → min (bytes + cost) (2 ^ 64 - 1) ≡ min all (2 ^ 64 - 1)
    go n m bytes cost all b k whole = omega (arith, b, k, whole)
