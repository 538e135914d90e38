-- A table, and a write to one row.
use Rattle.std.proofs.Common.{◌≡◌, ◌≢◌, ℕ, ◌<◌, List, refl, sym, ◌∙◌, subst, replicate}
use Rattle.std.specs.Prelude.{◌==◌, Bool, true, false, length, slice_index_or, slice_set}
use Rattle.std.proofs.lemmas.Bool.{eqb-true, eqb-false}
use Rattle.std.proofs.lemmas.List.{get_or-set_same, get_or-set_other, length-set, length-replicate, get_or-replicate}
use Rattle.journal_scan.specs.Tables.{IsTable}

-- a table of one row for all numbers
pub table_new : {R : Type 0} (n : ℕ) (P : ℕ → R → Type 0) (r : R) (rows : List R) → rows ≡ replicate n r → ((c : ℕ) → P c r) → IsTable n P rows
table_new {R} n P r rows is holds = subst (IsTable n P) (sym is) (record {
  sized = length-replicate n r;
  each = (λ c d within. subst (P c) (sym (get_or-replicate n c r d (rw length-replicate at within))) (holds c));
})

-- a table has as many rows as it has
pub table_sized : {R : Type 0} {n : ℕ} {P : ℕ → R → Type 0} {rows : List R} → IsTable n P rows → IsTable (length rows) P rows
table_sized table = record { sized = refl; each = table.each }

-- another fact of the same rows
pub table_to : {R : Type 0} {n : ℕ} {P Q : ℕ → R → Type 0} {rows : List R} → IsTable n P rows → ((c : ℕ) (r : R) → P c r → Q c r) → IsTable n Q rows
table_to table to = record { sized = table.sized; each = (λ c d within. to c _ (table.each c d within)) }

-- one row is written
pub table_set : {R : Type 0} (n : ℕ) (P Q : ℕ → R → Type 0) (rows : List R) (k : ℕ) (r : R) → IsTable n P rows → k < length rows → Q k r → ((c : ℕ) (x : R) → c ≢ k → P c x → Q c x) → IsTable n Q (slice_set rows k r)
table_set {R} n P Q rows k r table inside here away = record {
  sized = length-set rows k r ∙ table.sized;
  each = (λ c d within. told c d (rw length-set at within) (c == k) refl);
}
  where
    told : (c : ℕ) (d : R) → c < length rows → (b : Bool) → (c == k) ≡ b → Q c (slice_index_or (slice_set rows k r) c d)
    told c d within true is =
        let same : c ≡ k = eqb-true c k is in
        subst (λ (m : ℕ). Q m (slice_index_or (slice_set rows k r) m d)) (sym same) (subst (Q k) (sym (get_or-set_same rows k r d inside)) here)
    told c d within false is =
        let other : c ≢ k = eqb-false c k is in
        subst (Q c) (sym (get_or-set_other rows k c r d other)) (away c (slice_index_or rows c d) other (table.each c d within))
