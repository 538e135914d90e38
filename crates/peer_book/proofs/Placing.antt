-- Places of outputs in a history that grows.
use Rattle.std.proofs.Common.{◌≡◌, ℕ, zero, suc, ◌+◌, ◌<◌, ◌≤◌, ◌==◌, Bool, true, false, List, [], ◌∷◌, ◌++◌, refl, ap, sym, ◌∙◌, Option, Some, None, ◌-◌, length, map, take, drop, get_or, arith}
use Rattle.std.specs.Prelude.{if◌then◌else◌, filter, option_and_then, option_map, reverse, slice_get}
use Rattle.std.proofs.Math.Seq.{take-suc}
use Rattle.std.proofs.lemmas.List.{at_drop_more, length-append, append_assoc, append-nil, map-append, length-map, length-reverse, length-take, reverse-append}
use Rattle.std.proofs.lemmas.Bool.Decides.{nat_tests, Decides-eqb}
use Rattle.authority_model.specs.declared.journal.Item.{Item}
use Rattle.authority_model.specs.declared.message.Output.{Output}
use Rattle.authority_model.specs.Items.{sent, count_to}
use Rattle.authority_model.specs.Sent.{sent_to}
use Rattle.peer_book.specs.declared.places.OutputPlace.{OutputPlace}
use Rattle.peer_book.specs.Places.{output_at, output_shown, pair_of, place_at, places_to}

-- as many places as outputs
pub length-places : (c entry k : ℕ) (outputs : List Output) → length (places_to c entry k outputs) ≡ count_to c outputs
length-places c entry k [] = refl
length-places c entry k (o ∷ outputs) = go (o.to == c) (places_to c entry (k + 1) outputs) (length-places c entry (k + 1) outputs)
  where
    go : (b : Bool) (rest : List OutputPlace) → length rest ≡ count_to c outputs → length ((if b then record { entry = entry; output = k } ∷ [] else []) ++ rest) ≡ (if b then 1 else 0) + count_to c outputs
    go true rest is = omega (arith, is)
    go false rest is = omega (arith, is)

-- as many outputs as are counted
pub length-sent : (past : List Item) (c : ℕ) → length (sent_to past c) ≡ sent past c
length-sent [] c = refl
length-sent (i ∷ past) c =
    let all = length-append (sent_to past c) (filter (λ (o : Output). o.to == c) i.entry.outputs) in
    omega (arith, all, length-sent past c, each i.entry.outputs)
  where
    each : (outputs : List Output) → length (filter (λ (o : Output). o.to == c) outputs) ≡ count_to c outputs
    each [] = refl
    each (o ∷ outputs) = go (o.to == c) (filter (λ (o : Output). o.to == c) outputs) (each outputs)
      where
        go : (b : Bool) (rest : List Output) → length rest ≡ count_to c outputs → length (if b then o ∷ rest else rest) ≡ (if b then 1 else 0) + count_to c outputs
        go true rest is = omega (arith, is)
        go false rest is = omega (arith, is)

-- places that show the outputs count them
pub located_count : (places : List OutputPlace) (past : List Item) (c : ℕ) → map (output_shown past) places ≡ map Some (sent_to past c) → length places ≡ sent past c
located_count places past c located = sym (length-map places (output_shown past)) ∙ ap length located ∙ length-map (sent_to past c) Some ∙ length-sent past c

-- the output at one of the places
located_output : (places : List OutputPlace) (past : List Item) (c k : ℕ) → map (output_shown past) places ≡ map Some (sent_to past c) → option_and_then (output_shown past) (slice_get places k) ≡ slice_get (sent_to past c) k
located_output places past c k located = go places (sent_to past c) k located
  where
    go : (ps : List OutputPlace) (os : List Output) (k : ℕ) → map (output_shown past) ps ≡ map Some os → option_and_then (output_shown past) (slice_get ps k) ≡ slice_get os k
    go [] [] k is = refl
    go [] (o ∷ os) k is = absurd (cc)
    go (p ∷ ps) [] k is = absurd (cc)
    go (p ∷ ps) (o ∷ os) zero is = cc
    go (p ∷ ps) (o ∷ os) (suc k) is = go ps os k (cc)

-- the output of a number, counted from 1
pub numbered_output : (places : List OutputPlace) (past : List Item) (c k : ℕ) (found : Option (ℕ × ℕ)) → map (output_shown past) places ≡ map Some (sent_to past c) → found ≡ option_map pair_of (place_at places k) → 0 < k
    → option_and_then (output_at past) found ≡ slice_get (sent_to past c) (k - 1)
numbered_output places past c k found located is positive =
    let counted : (k == 0) ≡ false = grind (arith, nat_tests) in
    ap (option_and_then (output_at past)) (is ∙ ap (λ b. option_map pair_of (if b then None else slice_get places (k - 1))) counted) ∙ by_pair (slice_get places (k - 1)) ∙ located_output places past c (k - 1) located
  where
    by_pair : (o : Option OutputPlace) → option_and_then (output_at past) (option_map pair_of o) ≡ option_and_then (output_shown past) o
    by_pair None = refl
    by_pair (Some p) = refl

-- one element more, at the end
slice_get-push : {A : Type 0} (xs : List A) (x : A) (n : ℕ) → slice_get (xs ++ x ∷ []) n ≡ (if n == length xs then Some x else slice_get xs n)
slice_get-push [] x zero = refl
slice_get-push [] x (suc n) = let above : (suc n == 0) ≡ false = grind (arith, nat_tests) in sym (ap (λ b. if b then Some x else None) above)
slice_get-push (y ∷ ys) x zero = let below : (0 == suc (length ys)) ≡ false = grind (arith, nat_tests) in sym (ap (λ b. if b then Some x else Some y) below)
slice_get-push (y ∷ ys) x (suc n) =
    let same : (n == length ys) ≡ (suc n == suc (length ys)) = grind (arith, nat_tests) in
    slice_get-push ys x n ∙ ap (λ b. if b then Some x else slice_get ys n) same

-- a place of the last entry shows one of its outputs, and each other place what it showed before
shown_step : (past : List Item) (i : Item) (p : OutputPlace) → output_shown (i ∷ past) p ≡ (if p.entry == length past then slice_get i.entry.outputs p.output else output_shown past p)
shown_step past i p =
    ap (λ xs. option_and_then (λ (i : Item). slice_get i.entry.outputs p.output) (slice_get xs p.entry)) (reverse-append (i ∷ []) past)
    ∙ ap (option_and_then (λ (i : Item). slice_get i.entry.outputs p.output)) (slice_get-push (reverse past) i p.entry ∙ ap (λ n. if p.entry == n then Some i else slice_get (reverse past) p.entry) (length-reverse past))
    ∙ by_test (p.entry == length past)
  where
    by_test : (b : Bool) → option_and_then (λ (i : Item). slice_get i.entry.outputs p.output) (if b then Some i else slice_get (reverse past) p.entry) ≡ (if b then slice_get i.entry.outputs p.output else output_shown past p)
    by_test true = refl
    by_test false = refl

-- a place that shows an output stands in the history
within : (past : List Item) (p : OutputPlace) (o : Output) → output_shown past p ≡ Some o → p.entry < length past
within [] p o is = absurd (cc)
within (i ∷ past) p o is = go (p.entry == length past) refl (sym (shown_step past i p) ∙ is) (within past p o)
  where
    go : (b : Bool) → (p.entry == length past) ≡ b → (if b then slice_get i.entry.outputs p.output else output_shown past p) ≡ Some o → (output_shown past p ≡ Some o → p.entry < length past) → p.entry < suc (length past)
    go true at is ih = let e : p.entry ≡ length past = (Decides-eqb p.entry (length past)).0 at in omega (arith, e)
    go false at is ih = let e = ih is in omega (arith, e)

-- the places before show the same outputs in a longer history
pub located_before : (past : List Item) (i : Item) (ps : List OutputPlace) (os : List Output) → map (output_shown past) ps ≡ map Some os → map (output_shown (i ∷ past)) ps ≡ map Some os
located_before past i [] [] is = refl
located_before past i [] (o ∷ os) is = absurd (cc)
located_before past i (p ∷ ps) [] is = absurd (cc)
located_before past i (p ∷ ps) (o ∷ os) is =
    let first : output_shown past p ≡ Some o = cc in
    let rest : map (output_shown past) ps ≡ map Some os = cc in
    let inside = within past p o first in
    let apart : (p.entry == length past) ≡ false = grind (arith, nat_tests) in
    let one : output_shown (i ∷ past) p ≡ Some o = shown_step past i p ∙ ap (λ b. if b then slice_get i.entry.outputs p.output else output_shown past p) apart ∙ first in
    let more = located_before past i ps os rest in
    cc

-- the output at its own place
at_place : (front : List Output) (o : Output) (back : List Output) → slice_get (front ++ (o ∷ back)) (length front) ≡ Some o
at_place [] o back = refl
at_place (x ∷ front) o back = at_place front o back

-- the places of an item's outputs show them
pub located_after : (past : List Item) (i : Item) (c : ℕ) (front outputs : List Output) → i.entry.outputs ≡ front ++ outputs
    → map (output_shown (i ∷ past)) (places_to c (length past) (length front) outputs) ≡ map Some (filter (λ (o : Output). o.to == c) outputs)
located_after past i c front [] is = refl
located_after past i c front (o ∷ outputs) is =
    let longer : length (front ++ o ∷ []) ≡ length front + 1 = length-append front (o ∷ []) in
    let parts : i.entry.outputs ≡ (front ++ o ∷ []) ++ outputs = is ∙ sym (append_assoc front (o ∷ []) outputs) in
    let rest : map (output_shown (i ∷ past)) (places_to c (length past) (length front + 1) outputs) ≡ map Some (filter (λ (o : Output). o.to == c) outputs) =
    ap (λ k. map (output_shown (i ∷ past)) (places_to c (length past) k outputs)) (sym longer) ∙ located_after past i c (front ++ o ∷ []) outputs parts in
    let here : (length past == length past) ≡ true = grind (arith, nat_tests) in
    let one : output_shown (i ∷ past) (record { entry = length past; output = length front }) ≡ Some o =
    shown_step past i (record { entry = length past; output = length front })
    ∙ ap (λ b. if b then slice_get i.entry.outputs (length front) else output_shown past (record { entry = length past; output = length front })) here ∙ ap (λ (os : List Output). slice_get os (length front)) is ∙ at_place front o outputs in
    go (o.to == c) (places_to c (length past) (length front + 1) outputs) (filter (λ (o : Output). o.to == c) outputs) one rest
  where
    go : (b : Bool) (ps : List OutputPlace) (os : List Output) → output_shown (i ∷ past) (record { entry = length past; output = length front }) ≡ Some o → map (output_shown (i ∷ past)) ps ≡ map Some os
        → map (output_shown (i ∷ past)) ((if b then record { entry = length past; output = length front } ∷ [] else []) ++ ps) ≡ map Some (if b then o ∷ os else os)
    go true ps os one rest = cc
    go false ps os one rest = rest

-- the places show the outputs of the longer history once those of its last item are behind them
pub located_next : (before after : List OutputPlace) (past : List Item) (i : Item) (c entry : ℕ) (outputs : List Output) → map (output_shown past) before ≡ map Some (sent_to past c) → entry ≡ length past → i.entry.outputs ≡ outputs
    → after ≡ before ++ places_to c entry 0 outputs → map (output_shown (i ∷ past)) after ≡ map Some (sent_to (i ∷ past) c)
located_next before after past i c entry outputs located at is more =
    ap (map (output_shown (i ∷ past))) (more ∙ ap (λ n. before ++ places_to c n 0 outputs) at ∙ ap (λ (os : List Output). before ++ places_to c (length past) 0 os) (sym is))
    ∙ map-append (output_shown (i ∷ past)) before (places_to c (length past) 0 i.entry.outputs)
    ∙ ap (λ xs. xs ++ map (output_shown (i ∷ past)) (places_to c (length past) 0 i.entry.outputs)) (located_before past i before (sent_to past c) located)
    ∙ ap (λ xs. map Some (sent_to past c) ++ xs) (located_after past i c [] i.entry.outputs refl)
    ∙ sym (map-append Some (sent_to past c) (filter (λ (o : Output). o.to == c) i.entry.outputs))

-- the places of one output more
places_to-append : (c entry k : ℕ) (xs ys : List Output) → places_to c entry k (xs ++ ys) ≡ places_to c entry k xs ++ places_to c entry (k + length xs) ys
places_to-append c entry k [] ys = ap (λ n. places_to c entry n ys) (omega arith)
places_to-append c entry k (x ∷ xs) ys =
    let one : List OutputPlace = if x.to == c then record { entry = entry; output = k } ∷ [] else [] in
    let at : k + 1 + length xs ≡ k + suc (length xs) = omega arith in
    ap (λ ps. one ++ ps) (places_to-append c entry (k + 1) xs ys ∙ ap (λ n. places_to c entry (k + 1) xs ++ places_to c entry n ys) at)
    ∙ sym (append_assoc one (places_to c entry (k + 1) xs) (places_to c entry (k + suc (length xs)) ys))

-- after one output more, the places of the first outputs are behind
pub placed_more : (c k entry : ℕ) (outputs : List Output) (o : Output) (start before after : List OutputPlace) → k < length outputs → get_or outputs k o ≡ o
    → before ≡ start ++ places_to c entry 0 (take k outputs) → after ≡ before ++ (if o.to == c then record { entry = entry; output = k } ∷ [] else []) → after ≡ start ++ places_to c entry 0 (take (k + 1) outputs)
placed_more c k entry outputs o start before after inside is so_far one =
    let next : k + 1 ≡ suc k = omega arith in
    let size : 0 + length (take k outputs) ≡ k = omega (arith, length-take k outputs) in
    let new : List OutputPlace = if o.to == c then record { entry = entry; output = k } ∷ [] else [] in
    let last : places_to c entry k (o ∷ []) ≡ new = append-nil new in
    let more : places_to c entry 0 (take (k + 1) outputs) ≡ places_to c entry 0 (take k outputs) ++ new =
    ap (λ n. places_to c entry 0 (take n outputs)) next ∙ ap (places_to c entry 0) (take-suc outputs k o inside)
    ∙ places_to-append c entry 0 (take k outputs) (get_or outputs k o ∷ [])
    ∙ ap (λ (x : Output). places_to c entry 0 (take k outputs) ++ places_to c entry (0 + length (take k outputs)) (x ∷ [])) is
    ∙ ap (λ n. places_to c entry 0 (take k outputs) ++ places_to c entry n (o ∷ [])) size
    ∙ ap (λ ps. places_to c entry 0 (take k outputs) ++ ps) last in
    one ∙ ap (λ ps. ps ++ new) so_far ∙ append_assoc start (places_to c entry 0 (take k outputs)) new ∙ ap (λ ps. start ++ ps) (sym more)

-- after one output more, there is room for those that are left
pub room_more : (c k : ℕ) (outputs : List Output) (o : Output) (before after : ℕ) → k < length outputs → get_or outputs k o ≡ o → count_to c (drop k outputs) ≤ before → before ≤ after + (if o.to == c then 1 else 0)
    → count_to c (drop (k + 1) outputs) ≤ after
room_more c k outputs o before after inside is so_far one =
    let all : count_to c (drop k outputs) ≡ (if o.to == c then 1 else 0) + count_to c (drop (k + 1) outputs) =
    at_drop_more (count_to c) outputs k o inside ∙ ap (λ (x : Output). (if x.to == c then 1 else 0) + count_to c (drop (k + 1) outputs)) is in
    omega (arith, all, so_far, one)
