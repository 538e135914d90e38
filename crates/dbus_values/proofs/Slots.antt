-- The slots in which a walk keeps the items of arrays.
use Rattle.std.proofs.Common.{◌≡◌, ℕ, ◌-◌, ◌<◌, List, ◌++◌, length, get_or, take, drop, Option, Some, sym, ap, subst, ◌∙◌, arith, inl, inr, ◌⊎◌, ◌≢◌, Bor}
use Rattle.std.proofs.Math.ListN.{set, replicate, length-set}
use Rattle.std.proofs.lemmas.Bool.{cases_eq}
use Rattle.std.proofs.lemmas.List.{get_or-set_other, get_or-set_same, get_or-replicate, length-replicate, length-drop, take_all}
use Rattle.dbus_values.specs.Signatures.{after_item}
use Rattle.dbus_values.specs.Trees.{IsItem}
use Rattle.dbus_values.specs.Known.{IsKnown, AllKnown}

pub known_new : (n : ℕ) (f : Option (Bor (List ℕ))) → IsKnown f → AllKnown (replicate n f)
known_new n f h i d lt = subst IsKnown (sym (get_or-replicate n i f d (omega (arith, length-replicate n f)))) h

pub known_set : (xs : List (Option (Bor (List ℕ)))) (n : ℕ) (f : Option (Bor (List ℕ))) → AllKnown xs → n < length xs → IsKnown f → AllKnown (set xs n f)
known_set xs n f all lt h i d small = go (cases_eq i n) where
  go : (i ≡ n) ⊎ (i ≢ n) → IsKnown (get_or (set xs n f) i d)
  go (inl e) = subst IsKnown (sym (ap (λ (k : ℕ). get_or (set xs n f) k d) e ∙ get_or-set_same xs n f d lt)) h
  go (inr ne) = subst IsKnown (sym (get_or-set_other xs n i f d ne)) (all i d (omega (arith, length-set xs n f)))

after_front : (sig item rest : List ℕ) → IsItem item → sig ≡ item ++ rest → Some rest ≡ after_item sig
after_front sig item rest is split = rw split (sym (is rest))

-- what follows an item that a signature begins with
pub after_known : (sig item : List ℕ) → IsItem item → sig ≡ item ++ drop (length item) sig → Some (take (length sig - length item) (drop (length item) sig)) ≡ after_item sig
after_known sig item is split =
    let all : take (length sig - length item) (drop (length item) sig) ≡ drop (length item) sig = take_all (length sig - length item) (drop (length item) sig) (omega (arith, length-drop (length item) sig)) in
    rw all (after_front sig item (drop (length item) sig) is split)
