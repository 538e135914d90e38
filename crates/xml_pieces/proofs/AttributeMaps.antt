-- Attributes in a map, and the pairs that they stand for.
use Rattle.std.proofs.Common.{◌≡◌, ℕ, Bool, true, false, cond, List, [], ◌∷◌, ◌++◌, map, Some, Bor, refl, ap}
use Rattle.std.specs.Prelude.{bytes_eq, is_some}
use Rattle.std.specs.Map.{lookup}
use Rattle.indexmap.specs.IndexMap.{insert_entry}
use Rattle.xml_pieces.specs.Texts.{value_of}
use Rattle.xml_pieces.specs.Views.{pair_in}

abbrev same : Bor (List ℕ) → Bor (List ℕ) → Bool
same x y = bytes_eq x.now y.now

pub lookup_is : (key : List ℕ) (es : List (Bor (List ℕ) × List ℕ)) → lookup (λ (k : Bor (List ℕ)). bytes_eq key k.now) es ≡ value_of key (map pair_in es)
lookup_is key [] = refl
lookup_is key (e ∷ es) = ap (λ r. cond (bytes_eq key e.0.now) (Some e.1) r) (lookup_is key es)

-- a new name goes last
pub insert_new : (es : List (Bor (List ℕ) × List ℕ)) (k : Bor (List ℕ)) (v : List ℕ) → is_some (value_of k.now (map pair_in es)) ≡ false
    → map pair_in (insert_entry same es k v) ≡ map pair_in es ++ (record { key = k.now; value = v }) ∷ []
insert_new [] k v new = refl
insert_new (e ∷ es) k v new = of (bytes_eq k.now e.0.now) new (insert_new es k v)
  where
    of : (t : Bool) → is_some (cond t (Some e.1) (value_of k.now (map pair_in es))) ≡ false
        → (is_some (value_of k.now (map pair_in es)) ≡ false → map pair_in (insert_entry same es k v) ≡ map pair_in es ++ (record { key = k.now; value = v }) ∷ [])
        → map pair_in (cond t ((e.0, v) ∷ es) (e ∷ insert_entry same es k v)) ≡ pair_in e ∷ (map pair_in es ++ (record { key = k.now; value = v }) ∷ [])
    of true new ih = absurd (cc)
    of false new ih = ap (λ r. pair_in e ∷ r) (ih new)
