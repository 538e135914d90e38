-- A message has fewer parts than a walk may have, so what was marshalled is walked to its end.
use Rattle.std.proofs.Common.{◌≡◌, ℕ, zero, suc, ◌+◌, ◌*◌, ◌<◌, ◌≤◌, List, [], ◌∷◌, ◌++◌, length, Bool, true, false, cond, eqb, Ok, refl, subst, arith}
use Rattle.std.specs.Int.{w32}
use Rattle.std.proofs.lemmas.List.{length-append, append-nil}
use Rattle.std.proofs.Math.Nat.{mul-le-mul_right}
use Rattle.dbus_values.specs.declared.codes.TheConstants.{MAX_MESSAGE}
use Rattle.dbus_values.specs.Reading.{◌>>=◌, spot_at}
use Rattle.dbus_values.specs.Parts.{Piece}
use Rattle.dbus_values.specs.Parts as part
use Rattle.dbus_values.specs.Opened.{Open}
use Rattle.dbus_values.specs.Signatures.{item_align}
use Rattle.dbus_values.specs.Basics.{gap}
use Rattle.dbus_values.specs.Walk.{State, state, step, enter, next_in, walked, walk, is_done, values_at, most_parts}
use Rattle.dbus_values.specs.Trees.{Tree, Trees, type_of, types_of, pieces, all_pieces, bytes_of, padding, marshalled, all_marshalled, Each, FitsAs, Number, Text, Array, Struct, Entry, Variant, none, more}
use Rattle.dbus_values.proofs.Loops.{not_zero}
use Rattle.dbus_values.proofs.Numbers.{wide32}
use Rattle.dbus_values.proofs.Walking.{Walks, marshalled_pos, values_walk}

grow : (w i r : ℕ) → 1 ≤ i + r → w * i + 2 ≤ (w + 2) * (i + r)
grow w i r le = omega arith

one_part : (d l : ℕ) → 1 ≤ l → 1 ≤ (2 * d + 1) * l
one_part d l le = omega arith

both_parts : (w a b x y : ℕ) → a ≤ w * x → b ≤ w * y → a + b ≤ w * (x + y)
both_parts w a b x y p q = omega arith

-- at most so many parts for each byte
abbrev Few : Bool → ℕ → Type 0
Few item d = (t : Tree) (big : Bool) (at : ℕ) → FitsAs item d t → length (pieces t) ≤ (2 * d + 1) * length (marshalled big at t)

all_few : (P : Tree → Type 0) (w : ℕ) (few : (t : Tree) (big : Bool) (at : ℕ) → P t → length (pieces t) ≤ w * length (marshalled big at t)) (ts : Trees) (big : Bool) (at : ℕ) → Each P ts → length (all_pieces ts) ≤ w * length (all_marshalled big at ts)
all_few P w few none big at each = omega arith
all_few P w few (more t ts) big at each =
    let one = few t big at each.0 in
    let others = all_few P w few ts big (at + length (marshalled big at t)) each.1 in
    let m = marshalled big at t in
    let after = all_marshalled big (at + length m) ts in
    let sum = both_parts w (length (pieces t)) (length (all_pieces ts)) (length m) (length after) one others in
    let l : length (m ++ after) ≡ length m + length after = length-append m after in
    let p : length (pieces t ++ all_pieces ts) ≡ length (pieces t) + length (all_pieces ts) = length-append (pieces t) (all_pieces ts) in
    rw (l, p) sum

wrapped : (d i r p l : ℕ) → p ≤ (2 * d + 1) * i → 1 ≤ i + r → l ≡ i + r → p + 2 ≤ (2 * suc d + 1) * l
wrapped d i r p l few pos same =
    let k : 2 * suc d + 1 ≡ 2 * d + 1 + 2 = omega arith in
    let g = grow (2 * d + 1) i r pos in
    rw (same, k) (omega (arith, few, g))

few_both : (d : ℕ) → Few false d × Few true d
unfolding FitsAs
few_both zero = (few false, few true) where
  few : (item : Bool) → Few item zero
  few item (Number c n) big at fits = one_part zero _ (marshalled_pos item zero (Number c n) big at fits)
  few item (Text c t) big at fits = one_part zero _ (marshalled_pos item zero (Text c t) big at fits)
  few item (Array sig ts) big at fits = absurd fits
  few item (Struct ts) big at fits = absurd fits
  few false (Entry k v) big at fits = absurd fits
  few true (Entry k v) big at fits = absurd fits
  few item (Variant t) big at fits = absurd fits
few_both (suc d) = (few (few_both d) false, few (few_both d) true) where
  few : Few false d × Few true d → (item : Bool) → Few item (suc d)
  few ih item (Number c n) big at fits = one_part (suc d) _ (marshalled_pos item (suc d) (Number c n) big at fits)
  few ih item (Text c t) big at fits = one_part (suc d) _ (marshalled_pos item (suc d) (Text c t) big at fits)
  few ih item (Array sig ts) big at fits =
      let g = gap (item_align sig) (at + gap 4 at + 4) in
      let inside = all_marshalled big (at + gap 4 at + 4 + g) ts in
      let b = bytes_of big w32 (length inside) in
      let all = all_few (λ t. (type_of t ≡ sig) × FitsAs true d t) (2 * d + 1) (λ t big at h. ih.1 t big at h.1) ts big (at + gap 4 at + 4 + g) fits.1 in
      let l0 = length-append (padding (gap 4 at)) (b ++ (padding g ++ inside)) in
      let l1 = length-append b (padding g ++ inside) in
      let l2 = length-append (padding g) inside in
      let n : length (all_pieces ts ++ part.Leave 97 ∷ []) ≡ length (all_pieces ts) + 1 = length-append (all_pieces ts) (part.Leave 97 ∷ []) in
      let w = wrapped d (length inside) (length (padding (gap 4 at)) + length b + length (padding g)) (length (all_pieces ts)) (length (marshalled big at (Array sig ts))) all (omega (arith, wide32.len big (length inside))) (omega (arith, l0, l1, l2)) in
      omega (arith, n, w)
  few ih item (Struct none) big at fits = absurd fits.0
  few ih item (Struct (more t ts)) big at fits =
      let us = more t ts in
      let inside = all_marshalled big (at + gap 8 at) us in
      let all = all_few (FitsAs false d) (2 * d + 1) ih.0 us big (at + gap 8 at) fits.1 in
      let l0 = length-append (padding (gap 8 at)) inside in
      let n : length (all_pieces us ++ part.Leave 40 ∷ []) ≡ length (all_pieces us) + 1 = length-append (all_pieces us) (part.Leave 40 ∷ []) in
      let pos = marshalled_pos false d t big (at + gap 8 at) fits.1.0 in
      let w = wrapped d (length inside) (length (padding (gap 8 at))) (length (all_pieces us)) (length (marshalled big at (Struct us))) all (omega (arith, pos, length-append (marshalled big (at + gap 8 at) t) (all_marshalled big (at + gap 8 at + length (marshalled big (at + gap 8 at) t)) ts))) (omega (arith, l0)) in
      omega (arith, n, w)
  few ih false (Entry k v) big at fits = absurd fits
  few ih true (Entry k v) big at fits =
      let here = at + gap 8 at in
      let m = marshalled big here k in
      let after = marshalled big (here + length m) v in
      let one = ih.0 k big here fits.1 in
      let two = ih.0 v big (here + length m) fits.2 in
      let sum = both_parts (2 * d + 1) (length (pieces k)) (length (pieces v)) (length m) (length after) one two in
      let l0 = length-append (padding (gap 8 at)) (m ++ after) in
      let l1 = length-append m after in
      let n0 = length-append (pieces k) (pieces v ++ part.Leave 123 ∷ []) in
      let n1 = length-append (pieces v) (part.Leave 123 ∷ []) in
      let pos = marshalled_pos false d k big here fits.1 in
      let w = wrapped d (length m + length after) (length (padding (gap 8 at))) (length (pieces k) + length (pieces v)) (length (marshalled big at (Entry k v))) sum (omega (arith, pos)) (omega (arith, l0, l1)) in
      omega (arith, n0, n1, w)
  few ih item (Variant t) big at fits =
      let T = type_of t in
      let inside = marshalled big (at + length T + 2) t in
      let one = ih.0 t big (at + length T + 2) fits.2 in
      let l0 = length-append T (0 ∷ inside) in
      let w = wrapped d (length inside) (length T + 2) (length (pieces t)) (length (marshalled big at (Variant t))) one (omega arith) (omega (arith, l0)) in
      omega (arith, w)

pub few_parts : (d : ℕ) (ts : Trees) (big : Bool) (at : ℕ) → Each (FitsAs false d) ts → length (all_pieces ts) ≤ (2 * d + 1) * length (all_marshalled big at ts)
few_parts d ts big at each = let few = few_both d in all_few (FitsAs false d) (2 * d + 1) few.0 ts big at each

-- nothing follows the end
done_stops : (fs : List Open) (types : List ℕ) (at : ℕ) (rest : List ℕ) (limit : ℕ) (big : Bool) (x : Piece × State) → is_done (state fs types at rest) ≡ true → next_in limit big fs types at rest ≡ Ok x → ⊥
unfolding enter
done_stops [] [] at rest limit big x done e = cc
done_stops [] (c ∷ types) at rest limit big x done e = let k : eqb (length (c ∷ types)) 0 ≡ false = not_zero (length (c ∷ types)) (omega arith) in let h : false ≡ true = rw k at done in absurd cc
done_stops (f ∷ fs) types at rest limit big x done e = let k : eqb (length (f ∷ fs)) 0 ≡ false = not_zero (length (f ∷ fs)) (omega arith) in let h : false ≡ true = rw k at done in absurd cc

-- a walk to its end, within the steps
walk_whole : (n i limit : ℕ) (big : Bool) (s : State) (ps : List Piece) (at : ℕ) (rest : List ℕ) → length ps < n → Walks limit big s ps (state [] [] at rest) → walk n i limit big s ≡ Ok (walked (i + length ps) (spot_at at rest))
unfolding walk
walk_whole zero i limit big s ps at rest lt path = absurd (omega arith)
walk_whole (suc n) i limit big s [] at rest lt path = let k : i + 0 ≡ i = omega arith in rw (path, k) refl
walk_whole (suc n) i limit big s (p ∷ ps) at rest lt path = go (walk_whole n (i + 1) limit big path.0 ps at rest (omega arith) path.2) (is_done s) refl where
  go : walk n (i + 1) limit big path.0 ≡ Ok (walked (i + 1 + length ps) (spot_at at rest)) → (b : Bool) → is_done s ≡ b → cond b (Ok (record { parts = i; at = s.at; rest = s.rest })) (step limit big s >>= λ x. walk n (i + 1) limit big x.1) ≡ Ok (walked (i + length (p ∷ ps)) (spot_at at rest))
  go ih true done = absurd (done_stops s.open_parts s.types s.at s.rest limit big (p, path.0) done path.1)
  go ih false undone = let k : i + length (p ∷ ps) ≡ i + 1 + length ps = omega arith in rw (path.1, k) ih

-- What was marshalled by a signature is read by it, whatever follows it.
pub values_again : (d : ℕ) (big : Bool) (ts : Trees) (at : ℕ) (rest : List ℕ) → d ≤ 64 → Each (FitsAs false d) ts → length (all_marshalled big at ts) ≤ MAX_MESSAGE
    → values_at d big (types_of ts) at (all_marshalled big at ts ++ rest) ≡ Ok (walked (length (all_pieces ts)) (spot_at (at + length (all_marshalled big at ts)) rest))
values_again d big ts at rest le each short =
    let few = few_parts d ts big at each in
    let L = length (all_marshalled big at ts) in
    let small : length (all_pieces ts) ≤ 129 * L = bounded d L (length (all_pieces ts)) le few in
    let path : Walks d big (state [] (types_of ts ++ []) at (all_marshalled big at ts ++ rest)) (all_pieces ts) (state [] [] (at + L) rest) = values_walk d d big ts each (omega arith) [] rest at (omega arith) in
    let path' : Walks d big (state [] (types_of ts) at (all_marshalled big at ts ++ rest)) (all_pieces ts) (state [] [] (at + L) rest) = subst (λ (s : List ℕ). Walks d big (state [] s at (all_marshalled big at ts ++ rest)) (all_pieces ts) (state [] [] (at + L) rest)) (append-nil (types_of ts)) path in
    let w = walk_whole most_parts 0 d big (state [] (types_of ts) at (all_marshalled big at ts ++ rest)) (all_pieces ts) (at + L) rest (omega arith) path' in
    let k : 0 + length (all_pieces ts) ≡ length (all_pieces ts) = omega arith in
    rw k at w where
      bounded : (d l p : ℕ) → d ≤ 64 → p ≤ (2 * d + 1) * l → p ≤ 129 * l
      bounded d l p le few = let m : (2 * d + 1) * l ≤ 129 * l = mul-le-mul_right l (omega arith) in omega (arith, m)
