-- Values that are written, one byte after the other.
use mathlib.Core.Former.{Count}
use Rattle.std.proofs.Common.{◌≡◌, ℕ, zero, suc, ◌+◌, ◌-◌, ◌<◌, ◌≤◌, List, [], ◌∷◌, ◌++◌, length, get_or, take, drop, Bool, true, false, refl, ap, sym, subst, ◌∙◌, append_assoc, arith, length-append, drop-cons, add-one}
use Rattle.std.proofs.lemmas.List.{append-nil, drop_all, take_at, drop_at}
use Rattle.std.specs.Int.{w32}
use Rattle.dbus_values.specs.declared.codes.TheConstants.{MAX_MESSAGE}
use Rattle.dbus_values.specs.declared.value.Value.{Value, Struct, Struct', Array, Array', Row_of-Value, end_of-Value, more_of-Value, items-the_row-Value, items_hidden-the_row-Value-0}
use Rattle.dbus_values.specs.declared.value.ValueList.{ValueList}
use Rattle.std.specs.Prelude.{nat_le, ◌&&◌}
use Rattle.std.proofs.lemmas.Bool.{leb-true}
use Rattle.dbus_values.specs.Basics.{gap}
use Rattle.dbus_values.specs.Trees.{Tree, Trees, none, more, type_of, types_of, padding, marshalled, all_marshalled, bytes_of}
use Rattle.dbus_values.specs.Trees as trees
use Rattle.std.proofs.Math.ListN.{set}
use Rattle.std.specs.Prelude.{OnOk, Result, Ok, Err}
use Rattle.dbus_values.specs.Signatures.{item_align, are_types, is_signature}
use Rattle.dbus_values.specs.Trees.{FitsAs, Each}
use Rattle.dbus_values.specs.Written.{tree, all_trees, list_trees, HasForm, AllForm}
use Rattle.dbus_values.proofs.Numbers.{length-padding, wide32}

pub padding_none : padding 0 ≡ []
unfolding padding
padding_none = refl

padding_push : (i : ℕ) → padding (i + 1) ≡ padding i ++ 0 ∷ []
unfolding padding
padding_push zero = refl
padding_push (suc i) = let k : suc i + 1 ≡ suc (i + 1) = omega arith in rw k (ap (λ (x : List ℕ). 0 ∷ x) (padding_push i))

pub pushed : (out old next : List ℕ) (i : ℕ) → out ≡ old ++ padding i → next ≡ out ++ 0 ∷ [] → next ≡ old ++ padding (i + 1)
pushed out old next i is more-is = rw (more-is, is, padding_push i) (append_assoc old (padding i) (0 ∷ []))

pub front : (vs : List Value) (i : ℕ) (v : Value) → i < length vs → get_or vs i v ≡ v → drop i vs ≡ v ∷ drop (i + 1) vs
front vs i v lt is = rw add-one (drop-cons vs i v lt ∙ ap (λ (w : Value). w ∷ drop (suc i) vs) is)

row_trees : (n : _) (row : Row_of-Value n) → all_trees row ≡ list_trees (items-the_row-Value n row)
row_trees n end_of-Value = refl
row_trees n (more_of-Value v rest) = ap (λ (ts : Trees). more (tree v) ts) (row_trees _ rest)

abbrev row_of : Value → (n : Count) × Row_of-Value n
row_of (Struct' _ row) = (_, row)
row_of (Array' _ _ row) = (_, row)
row_of _ = (_, end_of-Value)

pub tree_struct : (items : ValueList) → tree (Struct items) ≡ trees.Struct (list_trees items.items.items)
tree_struct items =
    let row = row_of (Struct items) in
    ap trees.Struct (row_trees row.0 row.1 ∙ ap list_trees (items_hidden-the_row-Value-0 items.items))

-- one more type of several
pub types_more : (vs : List Value) (i : ℕ) (v : Value) (out next total : List ℕ) → i < length vs → get_or vs i v ≡ v → next ≡ out ++ type_of (tree v)
    → out ++ types_of (list_trees (drop i vs)) ≡ total → next ++ types_of (list_trees (drop (i + 1) vs)) ≡ total
types_more vs i v out next total lt is written so_far =
    let here : out ++ (type_of (tree v) ++ types_of (list_trees (drop (i + 1) vs))) ≡ total = subst (λ (ws : List Value). out ++ types_of (list_trees ws) ≡ total) (front vs i v lt is) so_far in
    rw written (append_assoc out (type_of (tree v)) (types_of (list_trees (drop (i + 1) vs))) ∙ here)

pub ruleset type_rules = (types_more)

pub on_ok : {A B : Type 0} {P Q : Type 0} (r : Result A B) → (P → Q) → OnOk r P → OnOk r Q
on_ok (Ok x) f p = f p
on_ok (Err e) f p = p

pub type_done : (items : ValueList) (value : Value) (vs : List Value) (i : ℕ) (old begun out final : List ℕ) → value ≡ Struct items → vs ≡ items.items.items → length vs ≤ i → begun ≡ old ++ 40 ∷ []
    → out ++ types_of (list_trees (drop i vs)) ≡ begun ++ types_of (list_trees vs) → final ≡ out ++ 41 ∷ [] → final ≡ old ++ type_of (tree value)
type_done items value vs i old begun out final value-is vs-is le begun-is so_far final-is =
    let T = types_of (list_trees vs) in
    let e : out ++ [] ≡ begun ++ T = subst (λ (ws : List Value). out ++ types_of (list_trees ws) ≡ begun ++ T) (drop_all i vs le) so_far in
    let out-is : out ≡ begun ++ T = sym (append-nil out) ∙ e in
    let h : tree value ≡ trees.Struct (list_trees vs) = ap tree value-is ∙ tree_struct items ∙ ap (λ (ws : List Value). trees.Struct (list_trees ws)) (sym vs-is) in
    final-is ∙ ap (λ (x : List ℕ). x ++ 41 ∷ []) (out-is ∙ ap (λ (x : List ℕ). x ++ T) begun-is) ∙ append_assoc (old ++ 40 ∷ []) T (41 ∷ []) ∙ append_assoc old (40 ∷ []) (T ++ 41 ∷ []) ∙ ap (λ (u : Tree). old ++ type_of u) (sym h)

-- four bytes in the place of four
pub patched : (xs : List ℕ) (at : ℕ) (bs : List ℕ) (a b c d : ℕ) → at + 4 ≤ length xs → bs ≡ a ∷ b ∷ c ∷ d ∷ []
    → set (set (set (set xs at (get_or bs 0 0)) (at + 1) (get_or bs 1 0)) (at + 2) (get_or bs 2 0)) (at + 3) (get_or bs 3 0) ≡ take at xs ++ (a ∷ b ∷ c ∷ d ∷ drop (at + 4) xs)
patched xs at bs a b c d le is = rw is (go xs at le) where
  go : (xs : List ℕ) (at : ℕ) → at + 4 ≤ length xs → set (set (set (set xs at a) (at + 1) b) (at + 2) c) (at + 3) d ≡ take at xs ++ (a ∷ b ∷ c ∷ d ∷ drop (at + 4) xs)
  go [] at le = absurd (omega arith)
  go (p ∷ []) zero le = absurd (omega arith)
  go (p ∷ q ∷ []) zero le = absurd (omega arith)
  go (p ∷ q ∷ r ∷ []) zero le = absurd (omega arith)
  go (p ∷ q ∷ r ∷ s ∷ xs) zero le = refl
  go (p ∷ xs) (suc at) le =
      let k1 : suc at + 1 ≡ suc (at + 1) = omega arith in
      let k2 : suc at + 2 ≡ suc (at + 2) = omega arith in
      let k3 : suc at + 3 ≡ suc (at + 3) = omega arith in
      let k4 : suc at + 4 ≡ suc (at + 4) = omega arith in
      rw (k1, k2, k3, k4) (ap (λ (x : List ℕ). p ∷ x) (go xs at (omega arith)))

-- ---- values

pub tree_array : (of : List ℕ) (items : ValueList) → tree (Array of items) ≡ trees.Array of (list_trees items.items.items)
tree_array of items =
    let row = row_of (Array of items) in
    ap (trees.Array of) (row_trees row.0 row.1 ∙ ap list_trees (items_hidden-the_row-Value-0 items.items))

pub each_forms : (P : Tree → Type 0) → ((t : Tree) → P t → HasForm t) → (vs : List Value) → Each P (list_trees vs) → AllForm vs
each_forms P form [] each = tt
each_forms P form (v ∷ vs) each = (form (tree v) each.0, each_forms P form vs each.1)

pub struct_forms : (items : ValueList) → HasForm (tree (Struct items)) → AllForm items.items.items
unfolding FitsAs
struct_forms items h = go (subst HasForm (tree_struct items) h) where
  inner : (item : Bool) (d : ℕ) → FitsAs item d (trees.Struct (list_trees items.items.items)) → AllForm items.items.items
  inner item zero fits = absurd fits
  inner item (suc d) fits = each_forms (FitsAs false d) (λ t f. (false, d, f)) items.items.items fits.1

  go : HasForm (trees.Struct (list_trees items.items.items)) → AllForm items.items.items
  go f = inner f.0 f.1 f.2

pub array_forms : (of : List ℕ) (items : ValueList) → HasForm (tree (Array of items)) → AllForm items.items.items
unfolding FitsAs
array_forms of items h = go (subst HasForm (tree_array of items) h) where
  inner : (item : Bool) (d : ℕ) → FitsAs item d (trees.Array of (list_trees items.items.items)) → AllForm items.items.items
  inner item zero fits = absurd fits
  inner item (suc d) fits = each_forms (λ t. (type_of t ≡ of) × FitsAs true d t) (λ t f. (true, d, f.1)) items.items.items fits.1

  go : HasForm (trees.Array of (list_trees items.items.items)) → AllForm items.items.items
  go f = inner f.0 f.1 f.2

pub entry_forms : (k v : Tree) → HasForm (trees.Entry k v) → HasForm k × HasForm v
unfolding FitsAs
entry_forms k v (false, d, fits) = absurd fits
entry_forms k v (true, zero, fits) = absurd fits
entry_forms k v (true, suc d, fits) = ((false, d, fits.1), (false, d, fits.2))

pub variant_forms : (t : Tree) → HasForm (trees.Variant t) → HasForm t × (is_signature (type_of t) ≡ true)
unfolding FitsAs
variant_forms t (item, zero, fits) = absurd fits
variant_forms t (item, suc d, fits) = ((false, d, fits.2), fits.0)

pub drop_form : (vs : List Value) (i : ℕ) (v : Value) → i < length vs → get_or vs i v ≡ v → AllForm (drop i vs) → HasForm (tree v) × AllForm (drop (i + 1) vs)
drop_form vs i v lt is all = let both : AllForm (v ∷ drop (i + 1) vs) = subst AllForm (front vs i v lt is) all in both

-- one more value of several
pub all_more : (vs : List Value) (i : ℕ) (v : Value) (out next total : List ℕ) → i < length vs → get_or vs i v ≡ v → next ≡ out ++ marshalled false (length out) (tree v)
    → out ++ all_marshalled false (length out) (list_trees (drop i vs)) ≡ total → next ++ all_marshalled false (length next) (list_trees (drop (i + 1) vs)) ≡ total
all_more vs i v out next total lt is written so_far =
    let s = marshalled false (length out) (tree v) in
    let len : length (out ++ s) ≡ length out + length s = length-append out s in
    let here : out ++ (s ++ all_marshalled false (length out + length s) (list_trees (drop (i + 1) vs))) ≡ total = subst (λ (ws : List Value). out ++ all_marshalled false (length out) (list_trees ws) ≡ total) (front vs i v lt is) so_far in
    rw (written, len) (append_assoc out s (all_marshalled false (length out + length s) (list_trees (drop (i + 1) vs))) ∙ here)

-- the next value is as short as all of them
pub next_short : (vs : List Value) (i : ℕ) (v : Value) (out total : List ℕ) (limit : ℕ) → i < length vs → get_or vs i v ≡ v → out ++ all_marshalled false (length out) (list_trees (drop i vs)) ≡ total → length total ≤ limit
    → length out + length (marshalled false (length out) (tree v)) ≤ limit
next_short vs i v out total limit lt is so_far short =
    let s = marshalled false (length out) (tree v) in
    let after = all_marshalled false (length out + length s) (list_trees (drop (i + 1) vs)) in
    let here : out ++ (s ++ after) ≡ total = subst (λ (ws : List Value). out ++ all_marshalled false (length out) (list_trees ws) ≡ total) (front vs i v lt is) so_far in
    omega (arith, ap length here, length-append out (s ++ after), length-append s after)

pub ruleset value_rules = (all_more)

pub length-padded : (out : List ℕ) (n : ℕ) → length (out ++ padding n) ≡ length out + n
length-padded out n = omega (arith, length-append out (padding n), length-padding n)

-- ---- structures

struct_is : (items : ValueList) (value : Value) (vs : List Value) → value ≡ Struct items → vs ≡ items.items.items → tree value ≡ trees.Struct (list_trees vs)
struct_is items value vs value-is vs-is = ap tree value-is ∙ tree_struct items ∙ ap (λ (ws : List Value). trees.Struct (list_trees ws)) (sym vs-is)

pub struct_begin : (items : ValueList) (value : Value) (vs : List Value) → value ≡ Struct items → vs ≡ items.items.items → HasForm (tree value) → AllForm vs
struct_begin items value vs value-is vs-is form = subst AllForm (sym vs-is) (struct_forms items (subst (λ (v : Value). HasForm (tree v)) value-is form))

pub struct_short : (items : ValueList) (value : Value) (vs : List Value) (old padded : List ℕ) → value ≡ Struct items → vs ≡ items.items.items → padded ≡ old ++ padding (gap 8 (length old)) → length old + length (marshalled false (length old) (tree value)) ≤ MAX_MESSAGE
    → length (padded ++ all_marshalled false (length padded) (list_trees vs)) ≤ MAX_MESSAGE
struct_short items value vs old padded value-is vs-is padded-is short =
    let at = length old in
    let place : length padded ≡ at + gap 8 at = ap length padded-is ∙ length-padded old (gap 8 at) in
    let inside = all_marshalled false (at + gap 8 at) (list_trees vs) in
    let whole : length (marshalled false at (tree value)) ≡ gap 8 at + length inside = ap (λ (u : Tree). length (marshalled false at u)) (struct_is items value vs value-is vs-is) ∙ omega (arith, length-append (padding (gap 8 at)) inside, length-padding (gap 8 at)) in
    let same : length (all_marshalled false (length padded) (list_trees vs)) ≡ length inside = ap (λ (q : ℕ). length (all_marshalled false q (list_trees vs))) place in
    omega (arith, length-append padded (all_marshalled false (length padded) (list_trees vs)), place, whole, same, short)

pub struct_done : (items : ValueList) (value : Value) (vs : List Value) (i : ℕ) (old padded out : List ℕ) → value ≡ Struct items → vs ≡ items.items.items → length vs ≤ i → padded ≡ old ++ padding (gap 8 (length old))
    → out ++ all_marshalled false (length out) (list_trees (drop i vs)) ≡ padded ++ all_marshalled false (length padded) (list_trees vs) → out ≡ old ++ marshalled false (length old) (tree value)
struct_done items value vs i old padded out value-is vs-is le padded-is so_far =
    let g = gap 8 (length old) in
    let e : out ++ [] ≡ padded ++ all_marshalled false (length padded) (list_trees vs) = subst (λ (ws : List Value). out ++ all_marshalled false (length out) (list_trees ws) ≡ padded ++ all_marshalled false (length padded) (list_trees vs)) (drop_all i vs le) so_far in
    let len : length padded ≡ length old + g = ap length padded-is ∙ length-padded old g in
    let f : padded ++ all_marshalled false (length padded) (list_trees vs) ≡ old ++ (padding g ++ all_marshalled false (length old + g) (list_trees vs)) =
    ap (λ (q : ℕ). padded ++ all_marshalled false q (list_trees vs)) len ∙ ap (λ (x : List ℕ). x ++ all_marshalled false (length old + g) (list_trees vs)) padded-is ∙ append_assoc old (padding g) (all_marshalled false (length old + g) (list_trees vs)) in
    sym (append-nil out) ∙ e ∙ f ∙ ap (λ (u : Tree). old ++ marshalled false (length old) u) (sym (struct_is items value vs value-is vs-is))

-- ---- arrays

array_is : (of : List ℕ) (items : ValueList) (value : Value) (vs : List Value) → value ≡ Array of items → vs ≡ items.items.items → tree value ≡ trees.Array of (list_trees vs)
array_is of items value vs value-is vs-is = ap tree value-is ∙ tree_array of items ∙ ap (λ (ws : List Value). trees.Array of (list_trees ws)) (sym vs-is)

pub array_begin : (of : List ℕ) (items : ValueList) (value : Value) (vs : List Value) → value ≡ Array of items → vs ≡ items.items.items → HasForm (tree value) → AllForm vs
array_begin of items value vs value-is vs-is form = subst AllForm (sym vs-is) (array_forms of items (subst (λ (v : Value). HasForm (tree v)) value-is form))

-- where the items begin
array_place : (of sig old p1 u p2 : List ℕ) → sig ≡ of → p1 ≡ old ++ padding (gap 4 (length old)) → u ≡ p1 ++ bytes_of false w32 0 → p2 ≡ u ++ padding (gap (item_align sig) (length u))
    → (length p1 ≡ length old + gap 4 (length old)) × (length u ≡ length old + gap 4 (length old) + 4) × (length p2 ≡ length old + gap 4 (length old) + 4 + gap (item_align of) (length old + gap 4 (length old) + 4))
array_place of sig old p1 u p2 sig-is p1-is u-is p2-is =
    let a : length p1 ≡ length old + gap 4 (length old) = ap length p1-is ∙ length-padded old (gap 4 (length old)) in
    let b : length u ≡ length old + gap 4 (length old) + 4 = omega (arith, ap length u-is, length-append p1 (bytes_of false w32 0), wide32.len false 0, a) in
    let c : length p2 ≡ length u + gap (item_align sig) (length u) = ap length p2-is ∙ length-padded u (gap (item_align sig) (length u)) in
    let d : length u + gap (item_align sig) (length u) ≡ length old + gap 4 (length old) + 4 + gap (item_align of) (length old + gap 4 (length old) + 4) = ap (λ (q : ℕ). q + gap (item_align sig) q) b ∙ ap (λ (s : List ℕ). length old + gap 4 (length old) + 4 + gap (item_align s) (length old + gap 4 (length old) + 4)) sig-is in
    (a, b, c ∙ d)

array_size : (of : List ℕ) (ts : Trees) (at : ℕ) → length (marshalled false at (trees.Array of ts)) ≡ gap 4 at + 4 + gap (item_align of) (at + gap 4 at + 4) + length (all_marshalled false (at + gap 4 at + 4 + gap (item_align of) (at + gap 4 at + 4)) ts)
array_size of ts at =
    let g = gap (item_align of) (at + gap 4 at + 4) in
    let inside = all_marshalled false (at + gap 4 at + 4 + g) ts in
    let b = bytes_of false w32 (length inside) in
    omega (arith, length-append (padding (gap 4 at)) (b ++ (padding g ++ inside)), length-append b (padding g ++ inside), length-append (padding g) inside, length-padding (gap 4 at), length-padding g, wide32.len false (length inside))

pub array_short : (of : List ℕ) (items : ValueList) (value : Value) (vs : List Value) (sig old p1 u p2 : List ℕ) → value ≡ Array of items → vs ≡ items.items.items → sig ≡ of → p1 ≡ old ++ padding (gap 4 (length old)) → u ≡ p1 ++ bytes_of false w32 0 → p2 ≡ u ++ padding (gap (item_align sig) (length u))
    → length old + length (marshalled false (length old) (tree value)) ≤ MAX_MESSAGE → length (p2 ++ all_marshalled false (length p2) (list_trees vs)) ≤ MAX_MESSAGE
array_short of items value vs sig old p1 u p2 value-is vs-is sig-is p1-is u-is p2-is short =
    let at = length old in
    let place = array_place of sig old p1 u p2 sig-is p1-is u-is p2-is in
    let P = at + gap 4 at + 4 + gap (item_align of) (at + gap 4 at + 4) in
    let whole : length (marshalled false at (tree value)) ≡ gap 4 at + 4 + gap (item_align of) (at + gap 4 at + 4) + length (all_marshalled false P (list_trees vs)) = ap (λ (t : Tree). length (marshalled false at t)) (array_is of items value vs value-is vs-is) ∙ array_size of (list_trees vs) at in
    let same : length (all_marshalled false (length p2) (list_trees vs)) ≡ length (all_marshalled false P (list_trees vs)) = ap (λ (q : ℕ). length (all_marshalled false q (list_trees vs))) place.2 in
    omega (arith, length-append p2 (all_marshalled false (length p2) (list_trees vs)), place.2, whole, same, short)

pub array_done : (of : List ℕ) (items : ValueList) (value : Value) (vs : List Value) (sig : List ℕ) (i at size : ℕ) (old p1 u p2 out final : List ℕ) → value ≡ Array of items → vs ≡ items.items.items → length vs ≤ i → sig ≡ of → p1 ≡ old ++ padding (gap 4 (length old)) → u ≡ p1 ++ bytes_of false w32 0 → p2 ≡ u ++ padding (gap (item_align sig) (length u))
    → out ++ all_marshalled false (length out) (list_trees (drop i vs)) ≡ p2 ++ all_marshalled false (length p2) (list_trees vs) → at ≡ length p1 → size ≡ length out - length p2
    → final ≡ take at out ++ (bytes_of false w32 size ++ drop (at + 4) out) → final ≡ old ++ marshalled false (length old) (tree value)
array_done of items value vs sig i at size old p1 u p2 out final value-is vs-is le sig-is p1-is u-is p2-is so_far at-is size-is final-is =
    let place = array_place of sig old p1 u p2 sig-is p1-is u-is p2-is in
    let here = length old in
    let P = here + gap 4 here + 4 + gap (item_align of) (here + gap 4 here + 4) in
    let g = gap (item_align of) (here + gap 4 here + 4) in
    let inside = all_marshalled false P (list_trees vs) in
    let b = bytes_of false w32 0 in
    let e : out ++ [] ≡ p2 ++ all_marshalled false (length p2) (list_trees vs) = subst (λ (ws : List Value). out ++ all_marshalled false (length out) (list_trees ws) ≡ p2 ++ all_marshalled false (length p2) (list_trees vs)) (drop_all i vs le) so_far in
    let out1 : out ≡ p2 ++ inside = sym (append-nil out) ∙ e ∙ ap (λ (q : ℕ). p2 ++ all_marshalled false q (list_trees vs)) place.2 in
    let p2' : p2 ≡ u ++ padding g = p2-is ∙ ap (λ (q : ℕ). u ++ padding (gap (item_align sig) q)) place.1 ∙ ap (λ (s : List ℕ). u ++ padding (gap (item_align s) (here + gap 4 here + 4))) sig-is in
    let out2 : out ≡ u ++ (padding g ++ inside) = out1 ∙ ap (λ (x : List ℕ). x ++ inside) p2' ∙ append_assoc u (padding g) inside in
    let out3 : out ≡ p1 ++ (b ++ (padding g ++ inside)) = out2 ∙ ap (λ (x : List ℕ). x ++ (padding g ++ inside)) u-is ∙ append_assoc p1 b (padding g ++ inside) in
    let front : take at out ≡ p1 = ap (λ (x : List ℕ). take at x) out3 ∙ take_at p1 (b ++ (padding g ++ inside)) at (sym at-is) in
    let behind : drop (at + 4) out ≡ padding g ++ inside = ap (λ (x : List ℕ). drop (at + 4) x) out2 ∙ drop_at u (padding g ++ inside) (at + 4) (omega (arith, place.1, place.0, at-is)) in
    let size' : size ≡ length inside = omega (arith, size-is, ap length out1, length-append p2 inside) in
    final-is ∙ ap (λ (x : List ℕ). x ++ (bytes_of false w32 size ++ drop (at + 4) out)) front ∙ ap (λ (x : List ℕ). p1 ++ (bytes_of false w32 size ++ x)) behind ∙ ap (λ (q : ℕ). p1 ++ (bytes_of false w32 q ++ (padding g ++ inside))) size'
    ∙ ap (λ (x : List ℕ). x ++ (bytes_of false w32 (length inside) ++ (padding g ++ inside))) p1-is ∙ append_assoc old (padding (gap 4 here)) (bytes_of false w32 (length inside) ++ (padding g ++ inside))
    ∙ ap (λ (t : Tree). old ++ marshalled false here t) (sym (array_is of items value vs value-is vs-is))

-- ---- dict entries

pub entry_form : (value : Value) (k v : Value) → tree value ≡ trees.Entry (tree k) (tree v) → HasForm (tree value) → HasForm (tree k) × HasForm (tree v)
entry_form value k v is form = entry_forms (tree k) (tree v) (subst HasForm is form)

pub entry_size : (k v : Tree) (at : ℕ) → length (marshalled false at (trees.Entry k v)) ≡ gap 8 at + length (marshalled false (at + gap 8 at) k) + length (marshalled false (at + gap 8 at + length (marshalled false (at + gap 8 at) k)) v)
entry_size k v at =
    let m = marshalled false (at + gap 8 at) k in
    let n = marshalled false (at + gap 8 at + length m) v in
    omega (arith, length-append (padding (gap 8 at)) (m ++ n), length-append m n, length-padding (gap 8 at))

pub key_short : (value : Value) (k v : Tree) (old padded : List ℕ) → tree value ≡ trees.Entry k v → padded ≡ old ++ padding (gap 8 (length old)) → length old + length (marshalled false (length old) (tree value)) ≤ MAX_MESSAGE → length padded + length (marshalled false (length padded) k) ≤ MAX_MESSAGE
key_short value k v old padded is padded-is short =
    let at = length old in
    let place : length padded ≡ at + gap 8 at = ap length padded-is ∙ length-padded old (gap 8 at) in
    let same : length (marshalled false (length padded) k) ≡ length (marshalled false (at + gap 8 at) k) = ap (λ (q : ℕ). length (marshalled false q k)) place in
    omega (arith, ap (λ (t : Tree). length (marshalled false at t)) is, entry_size k v at, place, same, short)

pub mapped_short : (value : Value) (k v : Tree) (old padded out : List ℕ) → tree value ≡ trees.Entry k v → padded ≡ old ++ padding (gap 8 (length old)) → out ≡ padded ++ marshalled false (length padded) k → length old + length (marshalled false (length old) (tree value)) ≤ MAX_MESSAGE → length out + length (marshalled false (length out) v) ≤ MAX_MESSAGE
mapped_short value k v old padded out is padded-is out-is short =
    let at = length old in
    let place : length padded ≡ at + gap 8 at = ap length padded-is ∙ length-padded old (gap 8 at) in
    let m = marshalled false (at + gap 8 at) k in
    let next : length out ≡ at + gap 8 at + length m = omega (arith, ap length out-is, length-append padded (marshalled false (length padded) k), place, ap (λ (q : ℕ). length (marshalled false q k)) place) in
    let same : length (marshalled false (length out) v) ≡ length (marshalled false (at + gap 8 at + length m) v) = ap (λ (q : ℕ). length (marshalled false q v)) next in
    omega (arith, ap (λ (t : Tree). length (marshalled false at t)) is, entry_size k v at, next, same, short)

pub entry_done : (value : Value) (k v : Tree) (old padded out final : List ℕ) → tree value ≡ trees.Entry k v → padded ≡ old ++ padding (gap 8 (length old)) → out ≡ padded ++ marshalled false (length padded) k → final ≡ out ++ marshalled false (length out) v → final ≡ old ++ marshalled false (length old) (tree value)
entry_done value k v old padded out final is padded-is out-is final-is =
    let at = length old in
    let place : length padded ≡ at + gap 8 at = ap length padded-is ∙ length-padded old (gap 8 at) in
    let m = marshalled false (at + gap 8 at) k in
    let out1 : out ≡ padded ++ m = out-is ∙ ap (λ (q : ℕ). padded ++ marshalled false q k) place in
    let next : length out ≡ at + gap 8 at + length m = omega (arith, ap length out1, length-append padded m, place) in
    let n = marshalled false (at + gap 8 at + length m) v in
    final-is ∙ ap (λ (q : ℕ). out ++ marshalled false q v) next ∙ ap (λ (x : List ℕ). x ++ n) (out1 ∙ ap (λ (x : List ℕ). x ++ m) padded-is) ∙ ap (λ (x : List ℕ). x ++ n) (append_assoc old (padding (gap 8 at)) m) ∙ append_assoc old (padding (gap 8 at) ++ m) n ∙ ap (λ (x : List ℕ). old ++ x) (append_assoc (padding (gap 8 at)) m n)
    ∙ ap (λ (t : Tree). old ++ marshalled false at t) (sym is)

-- ---- variants

pub signature_short : (sig : List ℕ) → is_signature sig ≡ true → length sig < 256
signature_short sig is = go (nat_le (length sig) 255) refl is where
  go : (b : Bool) → nat_le (length sig) 255 ≡ b → (b && are_types (length sig) sig) ≡ true → length sig < 256
  go true e h = omega (arith, leb-true _ _ e)
  go false e h = absurd cc

pub variant_form : (value v : Value) → tree value ≡ trees.Variant (tree v) → HasForm (tree value) → HasForm (tree v) × (length (type_of (tree v)) < 256)
variant_form value v is form = let f = variant_forms (tree v) (subst HasForm is form) in (f.0, signature_short (type_of (tree v)) f.1)

pub inner_short : (value : Value) (v : Tree) (old sig out : List ℕ) → tree value ≡ trees.Variant v → sig ≡ type_of v → out ≡ old ++ (length sig ∷ (sig ++ 0 ∷ [])) → length old + length (marshalled false (length old) (tree value)) ≤ MAX_MESSAGE → length out + length (marshalled false (length out) v) ≤ MAX_MESSAGE
inner_short value v old sig out is sig-is out-is short =
    let at = length old in
    let T = type_of v in
    let place : length out ≡ at + length T + 2 = omega (arith, ap length out-is, length-append old (length sig ∷ (sig ++ 0 ∷ [])), length-append sig (0 ∷ []), ap length sig-is) in
    let m = marshalled false (at + length T + 2) v in
    let same : length (marshalled false (length out) v) ≡ length m = ap (λ (q : ℕ). length (marshalled false q v)) place in
    omega (arith, ap (λ (t : Tree). length (marshalled false at t)) is, length-append T (0 ∷ m), place, same, short)

pub variant_done : (value : Value) (v : Tree) (old sig out final : List ℕ) → tree value ≡ trees.Variant v → sig ≡ type_of v → out ≡ old ++ (length sig ∷ (sig ++ 0 ∷ [])) → final ≡ out ++ marshalled false (length out) v → final ≡ old ++ marshalled false (length old) (tree value)
variant_done value v old sig out final is sig-is out-is final-is =
    let at = length old in
    let T = type_of v in
    let place : length out ≡ at + length T + 2 = omega (arith, ap length out-is, length-append old (length sig ∷ (sig ++ 0 ∷ [])), length-append sig (0 ∷ []), ap length sig-is) in
    let m = marshalled false (at + length T + 2) v in
    final-is ∙ ap (λ (q : ℕ). out ++ marshalled false q v) place ∙ ap (λ (x : List ℕ). x ++ m) (out-is ∙ ap (λ (s : List ℕ). old ++ (length s ∷ (s ++ 0 ∷ []))) sig-is) ∙ append_assoc old (length T ∷ (T ++ 0 ∷ [])) m ∙ ap (λ (x : List ℕ). old ++ (length T ∷ x)) (append_assoc T (0 ∷ []) m)
    ∙ ap (λ (t : Tree). old ++ marshalled false at t) (sym is)
