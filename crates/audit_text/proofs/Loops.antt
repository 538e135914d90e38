-- Lines written and read one after the other, as loops do.
use Rattle.std.proofs.Common.{◌≡◌, ℕ, suc, ◌-◌, ◌+◌, ◌≤◌, ◌<◌, List, [], ◌∷◌, ◌++◌, length, drop, get_or, Ok, Err, refl, sym, ap, ◌∙◌, append_assoc, append-nil, arith, add-one, drop-cons}
use Rattle.std.proofs.lemmas.List.{drop_all}
use Rattle.audit_text.specs.Lines.{Place, LineCodec, Reading, ◌then◌, take_items, spell_items}

abbrev pub with_front : {A : Type 0} → List A → Reading (List A) → Reading (List A)
with_front front read = read then λ x. Ok (front ++ x.0, x.1)

pub starts : {A : Type 0} (read : Reading (List A)) → with_front [] read ≡ read
starts (Ok x) = refl
starts (Err k) = refl

regroup_front : (A : Type 0) (front : List A) (v : A) (read : Reading (List A)) → with_front front (read then λ x. Ok (v ∷ x.0, x.1)) ≡ with_front (front ++ v ∷ []) read
regroup_front A front v (Ok x) = ap (λ (vs : List A). Ok (vs, x.1)) (sym (append_assoc front (v ∷ []) x.0))
regroup_front A front v (Err k) = refl

pub one_more : (A : Type 0) (c : LineCodec A) (count i : ℕ) (at : Place) → i < count
    → take_items c (count - i) at ≡ (c.take at then λ x. take_items c (count - (i + 1)) x.1 then λ y. Ok (x.0 ∷ y.0, y.1))
one_more A c count i at lt = let k : count - i ≡ suc (count - (i + 1)) = omega arith in ap (λ (n : ℕ). take_items c n at) k

pub goes_on : (A : Type 0) (c : LineCodec A) (front : List A) (count i : ℕ) (at : Place) (v : A) (after : Place) (total : Reading (List A)) → i < count → c.take at ≡ Ok (v, after)
    → with_front front (take_items c (count - i) at) ≡ total → with_front (front ++ v ∷ []) (take_items c (count - (i + 1)) after) ≡ total
goes_on A c front count i at v after total lt e so_far =
    sym (ap (with_front front) (one_more A c count i at lt ∙ ap (λ (r : Reading A). r then λ x. take_items c (count - (i + 1)) x.1 then λ y. Ok (x.0 ∷ y.0, y.1)) e)
    ∙ regroup_front A front v (take_items c (count - (i + 1)) after)) ∙ so_far

pub is_done : (A : Type 0) (c : LineCodec A) (front : List A) (count i : ℕ) (at : Place) (total : Reading (List A)) → count ≤ i
    → with_front front (take_items c (count - i) at) ≡ total → total ≡ Ok (front, at)
is_done A c front count i at total le so_far =
    let k : count - i ≡ 0 = omega arith in
    sym so_far ∙ ap (λ (n : ℕ). with_front front (take_items c n at)) k ∙ ap (λ (vs : List A). Ok (vs, at)) (append-nil front)

-- ---- writing

-- one more item was written
pub item_written : (A : Type 0) (c : LineCodec A) (text new total : List ℕ) (items : List A) (i : ℕ) (item : A) → i < length items → item ≡ get_or items i item → new ≡ text ++ c.spell item
    → text ++ spell_items c (drop i items) ≡ total → new ++ spell_items c (drop (i + 1) items) ≡ total
item_written A c text new total items i item lt is push so_far =
    let parts : drop i items ≡ item ∷ drop (i + 1) items = drop-cons items i item lt ∙ rw (← is, add-one) refl in
    ap (λ (t : List ℕ). t ++ spell_items c (drop (i + 1) items)) push
    ∙ append_assoc text (c.spell item) (spell_items c (drop (i + 1) items))
    ∙ sym (ap (λ (vs : List A). text ++ spell_items c vs) parts)
    ∙ so_far

pub all_written : (A : Type 0) (c : LineCodec A) (text total : List ℕ) (items : List A) (i : ℕ) → length items ≤ i
    → text ++ spell_items c (drop i items) ≡ total → text ≡ total
all_written A c text total items i le so_far =
    let none : drop i items ≡ [] = drop_all i items le in
    sym (append-nil text) ∙ sym (ap (λ (vs : List A). text ++ spell_items c vs) none) ∙ so_far

-- bytes behind bytes
pub onto : (old mid new a b : List ℕ) → mid ≡ old ++ a → new ≡ mid ++ b → new ≡ old ++ (a ++ b)
onto old mid new a b e h = h ∙ ap (λ (t : List ℕ). t ++ b) e ∙ append_assoc old a b

-- the lines of values that were handed in as a slice
pub of_slice : (A : Type 0) (c : LineCodec A) (old new : List ℕ) (slice items : List A) → slice ≡ items → new ≡ old ++ spell_items c slice → new ≡ old ++ spell_items c items
of_slice A c old new slice items same e = e ∙ ap (λ (vs : List A). old ++ spell_items c vs) same
