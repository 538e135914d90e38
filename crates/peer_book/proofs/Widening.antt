-- Room for more places: the places stay, and what counts them.
use Rattle.std.proofs.Common.{◌≡◌, ℕ, suc, ◌+◌, ◌-◌, ◌^◌, ◌<◌, ◌≤◌, ◌==◌, Bool, true, false, List, [], ◌∷◌, ◌++◌, refl, ap, sym, ◌∙◌, subst, Option, Some, None, cond, length, take, get_or, inl, inr, is_some, arith}
use Rattle.std.proofs.lemmas.Bool.Decides.{Decides-eqb, nat_tests}
use Rattle.std.proofs.lemmas.Map.{lookup-none}
use Rattle.std.proofs.lemmas.Map.Entries.{none_past_head}
use Rattle.std.proofs.lemmas.Map.Keys.{IsDistinct-tail}
use Rattle.std.proofs.Math.Seq.{take-suc}
use Rattle.std.specs.Cmp.{nat_eq_equiv}
use Rattle.std.specs.Prelude.{if◌then◌else◌, ◌⊎◌, IsSome, nat_eq, option_map, slice_get, unwrap_or}
use Rattle.std.specs.List.{IsDistinct}
use Rattle.std.specs.Option.{option_map_or}
use Rattle.std.specs.Map.{keys_of, lookup, set_value}
use Rattle.indexmap.specs.IndexMap.{IndexMap, WritesThrough}
use Rattle.pk_types.specs.Roomy.{Roomy}
use Rattle.peer_book.specs.declared.places.OutputPlace.{OutputPlace}
use Rattle.peer_book.specs.Places.{KeepsPlaces, PlaceRows, CanTake, count_in, pair_of, place_at, places_in, places_of, room_in, shown, with_row}

-- one change after another
pub kept_both : (a b c : PlaceRows) → KeepsPlaces a b → KeepsPlaces b c → KeepsPlaces a c
kept_both a b c first second = record {
  shown_same = second.shown_same ∙ first.shown_same;
  same = λ q. second.same q ∙ first.same q;
  room = λ q. omega (arith, first.room q, second.room q);
}

-- room for places of a connection stays
pub can_still : (old new : PlaceRows) (c n : ℕ) → KeepsPlaces old new → CanTake old c n → CanTake new c n
can_still old new c n kept can = record {
  room = omega (arith, kept.room c, can.room);
  few = let same : length (places_in new c) ≡ length (places_in old c) = ap length (kept.same c) in omega (arith, same, can.few);
}

-- the rows that have places are the same after a row was written over by one with the same places
shown_set : (rows : PlaceRows) (c : ℕ) (row new : Roomy OutputPlace) → lookup (nat_eq c) rows ≡ Some row → new.items ≡ row.items → shown (set_value (nat_eq c) rows new) ≡ shown rows
shown_set [] c row new found is = refl
shown_set (e ∷ rows) c row new found is = go (c == e.0) found (shown_set rows c row new)
  where
    go : (b : Bool) → cond b (Some e.1) (lookup (nat_eq c) rows) ≡ Some row → (lookup (nat_eq c) rows ≡ Some row → new.items ≡ row.items → shown (set_value (nat_eq c) rows new) ≡ shown rows)
        → shown (cond b ((e.0, new) ∷ rows) (e ∷ set_value (nat_eq c) rows new)) ≡ with_row e.0 e.1.items (shown rows)
    go true found rest =
        let one : e.1 ≡ row = cc in
        ap (λ ps. with_row e.0 ps (shown rows)) (is ∙ ap (λ (r : Roomy OutputPlace). r.items) (sym one))
    go false found rest = ap (λ xs. with_row e.0 e.1.items xs) (rest found is)

-- a row was written over by one with the same places and no less room
pub kept_written : (rows later : PlaceRows) (c : ℕ) (row new : Roomy OutputPlace) → lookup (nat_eq c) rows ≡ Some row → later ≡ set_value (nat_eq c) rows new
    → ((q : ℕ) → lookup (nat_eq q) later ≡ cond (c == q) (Some new) (lookup (nat_eq q) rows)) → new.items ≡ row.items → row.room ≤ new.room → KeepsPlaces rows later
kept_written rows later c row new found is put same room = record {
  shown_same = ap shown is ∙ shown_set rows c row new found same;
  same = λ q. ap (λ (o : Option (Roomy OutputPlace)). option_map_or (λ r. r.items) o []) (put q) ∙ places q (c == q) refl;
  room = λ q. let e = ap (λ (o : Option (Roomy OutputPlace)). option_map_or (λ r. r.room) o 0) (put q) in omega (arith, e, rooms q (c == q) refl);
}
  where
    here : (q : ℕ) → (c == q) ≡ true → lookup (nat_eq q) rows ≡ Some row
    here q at = ap (λ n. lookup (nat_eq n) rows) (sym ((Decides-eqb c q).0 at)) ∙ found

    places : (q : ℕ) (b : Bool) → (c == q) ≡ b → option_map_or (λ (r : Roomy OutputPlace). r.items) (cond b (Some new) (lookup (nat_eq q) rows)) [] ≡ places_in rows q
    places q true at = same ∙ sym (ap (λ (o : Option (Roomy OutputPlace)). option_map_or (λ r. r.items) o []) (here q at))
    places q false at = refl

    rooms : (q : ℕ) (b : Bool) → (c == q) ≡ b → room_in rows q ≤ option_map_or (λ (r : Roomy OutputPlace). r.room) (cond b (Some new) (lookup (nat_eq q) rows)) 0
    rooms q true at = let e = ap (λ (o : Option (Roomy OutputPlace)). option_map_or (λ r. r.room) o 0) (here q at) in omega (arith, e, room)
    rooms q false at = omega arith

-- a row that is found is there
some_of : (o : Option (Roomy OutputPlace)) (row : Roomy OutputPlace) → o ≡ Some row → IsSome o
some_of None row is = absurd (cc)
some_of (Some r) row is = search

-- a row that is not there is not found
pub none_from : (o : Option (Roomy OutputPlace)) → is_some o ≡ false → o ≡ None
none_from None is = refl
none_from (Some r) is = absurd (cc)

-- the row of a connection was lent, and written over by one with the same places and no less room
pub kept_through : {S : Type 0} (m n : IndexMap ℕ (Roomy OutputPlace) S) (c : ℕ) (row new : Roomy OutputPlace) → lookup (nat_eq c) m.entries ≡ Some row → WritesThrough nat_eq (nat_eq c) m new n
    → new.items ≡ row.items → row.room ≤ new.room → KeepsPlaces m.entries n.entries
kept_through m n c row new found written same room = kept_written m.entries n.entries c row new found written.0 (written.3 (some_of (lookup (nat_eq c) m.entries) row found)).0 same room

-- the rows that have places are the same after a row without places was put at the end
shown_added : (rows : PlaceRows) (c : ℕ) (row : Roomy OutputPlace) → row.items ≡ [] → shown (rows ++ (c, row) ∷ []) ≡ shown rows
shown_added [] c row none = ap (λ ps. with_row c ps []) none
shown_added (e ∷ rows) c row none = ap (λ xs. with_row e.0 e.1.items xs) (shown_added rows c row none)

-- a row without places was put at the end
pub kept_added : (rows later : PlaceRows) (c : ℕ) (row : Roomy OutputPlace) → lookup (nat_eq c) rows ≡ None → later ≡ rows ++ (c, row) ∷ [] → row.items ≡ []
    → ((q : ℕ) → lookup (nat_eq q) later ≡ cond (c == q) (Some row) (lookup (nat_eq q) rows)) → KeepsPlaces rows later
kept_added rows later c row absent is none put = record {
  shown_same = ap shown is ∙ shown_added rows c row none;
  same = λ q. ap (λ (o : Option (Roomy OutputPlace)). option_map_or (λ r. r.items) o []) (put q) ∙ places q (c == q) refl;
  room = λ q. let e = ap (λ (o : Option (Roomy OutputPlace)). option_map_or (λ r. r.room) o 0) (put q) in omega (arith, e, rooms q (c == q) refl);
}
  where
    here : (q : ℕ) → (c == q) ≡ true → lookup (nat_eq q) rows ≡ None
    here q at = ap (λ n. lookup (nat_eq n) rows) (sym ((Decides-eqb c q).0 at)) ∙ absent

    places : (q : ℕ) (b : Bool) → (c == q) ≡ b → option_map_or (λ (r : Roomy OutputPlace). r.items) (cond b (Some row) (lookup (nat_eq q) rows)) [] ≡ places_in rows q
    places q true at = none ∙ sym (ap (λ (o : Option (Roomy OutputPlace)). option_map_or (λ r. r.items) o []) (here q at))
    places q false at = refl

    rooms : (q : ℕ) (b : Bool) → (c == q) ≡ b → room_in rows q ≤ option_map_or (λ (r : Roomy OutputPlace). r.room) (cond b (Some row) (lookup (nat_eq q) rows)) 0
    rooms q true at = let e = ap (λ (o : Option (Roomy OutputPlace)). option_map_or (λ r. r.room) o 0) (here q at) in omega (arith, e)
    rooms q false at = omega arith

-- a key that no entry has is not found
not_found : {X : Type 0} (c : ℕ) (e : ℕ × X) (es : List (ℕ × X)) → IsDistinct nat_eq (keys_of (e ∷ es)) → (c == e.0) ≡ true → lookup (nat_eq c) es ≡ None
not_found c e es distinct at = lookup-none (nat_eq c) es (none_past_head nat_eq_equiv c e es distinct at)

-- a look-up among the rows that have places gives the same places
pub shown_places : (rows : PlaceRows) (c : ℕ) → IsDistinct nat_eq (keys_of rows) → places_of (shown rows) c ≡ places_in rows c
shown_places [] c distinct = refl
shown_places (e ∷ rows) c distinct = go e.1.items (c == e.0) refl refl (shown_places rows c (IsDistinct-tail nat_eq e.0 (keys_of rows) distinct))
  where
    go : (ps : List OutputPlace) (b : Bool) → e.1.items ≡ ps → (c == e.0) ≡ b → places_of (shown rows) c ≡ places_in rows c
        → places_of (with_row e.0 ps (shown rows)) c ≡ option_map_or (λ (r : Roomy OutputPlace). r.items) (cond b (Some e.1) (lookup (nat_eq c) rows)) []
    go [] true is at rest = rest ∙ ap (λ (o : Option (Roomy OutputPlace)). option_map_or (λ r. r.items) o []) (not_found c e rows distinct at) ∙ sym is
    go [] false is at rest = rest
    go (p ∷ ps) true is at rest = ap (λ b. unwrap_or (cond b (Some (p ∷ ps)) (lookup (nat_eq c) (shown rows))) []) at ∙ sym is
    go (p ∷ ps) false is at rest = ap (λ b. unwrap_or (cond b (Some (p ∷ ps)) (lookup (nat_eq c) (shown rows))) []) at ∙ rest

-- receivers are counted one after the other
count_in-append : (c : ℕ) (xs ys : List ℕ) → count_in c (xs ++ ys) ≡ count_in c xs + count_in c ys
count_in-append c [] ys = omega arith
count_in-append c (x ∷ xs) ys = ap (λ n. (if x == c then 1 else 0) + n) (count_in-append c xs ys) ∙ omega arith

-- one receiver more is counted
pub counted_more : (c k : ℕ) (ns : List ℕ) (before after : ℕ) → k < length ns → before ≡ count_in c (take k ns) → after ≡ before + (if get_or ns k 0 == c then 1 else 0) → after ≡ count_in c (take (k + 1) ns)
counted_more c k ns before after within so_far one =
    let next : k + 1 ≡ suc k = omega arith in
    let more : count_in c (take (k + 1) ns) ≡ count_in c (take k ns) + ((if get_or ns k 0 == c then 1 else 0) + 0) =
    ap (λ m. count_in c (take m ns)) next ∙ ap (count_in c) (take-suc ns k 0 within) ∙ count_in-append c (take k ns) (get_or ns k 0 ∷ []) in
    omega (arith, one, so_far, more)

-- one row more of those that are counted has room
pub can_more : (old new : PlaceRows) (tally rest : List (ℕ × ℕ)) (r m : ℕ) → KeepsPlaces old new → CanTake new r m
    → ((c n : ℕ) → lookup (nat_eq c) tally ≡ Some n → (lookup (nat_eq c) ((r, m) ∷ rest) ≡ Some n) ⊎ CanTake old c n) → (c n : ℕ) → lookup (nat_eq c) tally ≡ Some n → (lookup (nat_eq c) rest ≡ Some n) ⊎ CanTake new c n
can_more old new tally rest r m kept can so_far c n found = go (so_far c n found)
  where
    here : (b : Bool) → (c == r) ≡ b → cond b (Some m) (lookup (nat_eq c) rest) ≡ Some n → (lookup (nat_eq c) rest ≡ Some n) ⊎ CanTake new c n
    here true at is =
        let count : m ≡ n = cc in
        inr (subst (λ k. CanTake new k n) (sym ((Decides-eqb c r).0 at)) (subst (λ k. CanTake new r k) count can))
    here false at is = inl is

    go : (lookup (nat_eq c) ((r, m) ∷ rest) ≡ Some n) ⊎ CanTake old c n → (lookup (nat_eq c) rest ≡ Some n) ⊎ CanTake new c n
    go (inl is) = here (c == r) refl is
    go (inr can) = inr (can_still old new c n kept can)

-- a lone receiver has room
pub can_lone : (old new : PlaceRows) (receivers : List ℕ) → length receivers ≡ 1 → ((c : ℕ) → length (places_in old c) < 2 ^ 32) → KeepsPlaces old new → CanTake new (get_or receivers 0 0) 1
    → (c : ℕ) → CanTake new c (count_in c receivers)
can_lone old new (r ∷ []) lone few kept can c = go (r == c) refl
  where
    go : (b : Bool) → (r == c) ≡ b → CanTake new c (cond b 1 0 + 0)
    go true at = subst (λ k. CanTake new k 1) ((Decides-eqb r c).0 at) can
    go false at = let same : length (places_in new c) ≡ length (places_in old c) = ap length (kept.same c) in let c_few = few c in record { room = omega arith; few = omega (arith, same, c_few) }
can_lone old new [] lone few kept can c = record { room = omega (arith, lone); few = omega (arith, lone) }
can_lone old new (r ∷ q ∷ rest) lone few kept can c = record { room = omega (arith, lone); few = omega (arith, lone) }

-- the places of a row, where there is one
abbrev pub items_of : Option (Roomy OutputPlace) → List OutputPlace
items_of o = option_map_or (λ row. row.items) o []

-- the two numbers of the k-th of some places, counted from 1
pub placed_at : (places : List OutputPlace) (k : ℕ) (found : Option (ℕ × ℕ)) → 0 < k → found ≡ option_map pair_of (slice_get places (k - 1)) → found ≡ option_map pair_of (place_at places k)
placed_at places k found positive is =
    let counted : (k == 0) ≡ false = grind (arith, nat_tests) in
    is ∙ sym (ap (λ b. option_map pair_of (if b then None else slice_get places (k - 1))) counted)
