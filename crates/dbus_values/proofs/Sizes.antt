-- How many bytes values and messages have, up to the greatest number of 64 bits.
use Rattle.std.proofs.Common.{◌≡◌, ℕ, ◌+◌, ◌-◌, ◌<◌, ◌≤◌, ◌^◌, List, [], ◌∷◌, ◌++◌, length, get_or, drop, Bool, false, cond, Option, Some, None, refl, ap, sym, subst, ◌∙◌, arith, length-append, inl, inr, ◌⊎◌, ◌≢◌}
use Rattle.std.proofs.lemmas.Bool.{cases_lt}
use Rattle.std.proofs.lemmas.List.{drop_all}
use Rattle.std.specs.Int.{w32, w64}
use Rattle.dbus_values.specs.declared.value.Value.{Value, Bool as Truth, U32, U64, Text, Struct, Array}
use Rattle.dbus_values.specs.declared.value.ValueList.{ValueList}
use Rattle.dbus_values.specs.Basics.{gap}
use Rattle.dbus_values.specs.Signatures.{item_align}
use Rattle.dbus_values.specs.Trees.{Tree, Trees, type_of, types_of, padding, bytes_of, marshalled, all_marshalled}
use Rattle.dbus_values.specs.Trees as trees
use Rattle.dbus_values.specs.Form.{Field, Message, field_bytes, fields_bytes, message_bytes}
use Rattle.dbus_values.specs.Written.{tree, list_trees, text_field, number_field, signature_field}
use Rattle.dbus_values.specs.Capped.{capped}
use Rattle.dbus_values.proofs.Numbers.{length-padding, wide32, wide64}
use Rattle.dbus_values.proofs.Writing.{front, tree_struct, tree_array, entry_size}
use Rattle.dbus_values.proofs.Sending.{message_length}

-- one length behind another
pub chain : (f : ℕ → ℕ) (p mid end : ℕ) → mid ≡ capped p → end ≡ capped (mid + f mid) → end ≡ capped (p + f p)
chain f p mid end mid-is end-is =
    elim (cases_lt p (2 ^ 64)) [
      | inl lt ↦ (let same : mid ≡ p = omega (arith, mid-is) in end-is ∙ ap (λ (q : ℕ). capped (q + f q)) same)
      | inr le ↦ (let top : mid ≡ 2 ^ 64 - 1 = omega (arith, mid-is) in omega (arith, end-is, top))
    ]

pub capped_fits : (n end : ℕ) → end ≡ capped n → end < 2 ^ 64
capped_fits n end is = omega (arith, is)

-- ---- types

pub letters_more : (vs : List Value) (i : ℕ) (v : Value) (here next total : ℕ) → i < length vs → get_or vs i v ≡ v → next ≡ capped (here + length (type_of (tree v)))
    → capped (here + length (types_of (list_trees (drop i vs)))) ≡ total → capped (next + length (types_of (list_trees (drop (i + 1) vs)))) ≡ total
letters_more vs i v here next total lt is next-is so_far =
    let rest = types_of (list_trees (drop (i + 1) vs)) in
    let split : length (types_of (list_trees (drop i vs))) ≡ length (type_of (tree v)) + length rest = ap (λ (ws : List Value). length (types_of (list_trees ws))) (front vs i v lt is) ∙ length-append (type_of (tree v)) rest in
    omega (arith, split, next-is, so_far)

pub letters_all : (vs : List Value) (i at here : ℕ) → here < 2 ^ 64 → length vs ≤ i → capped (here + length (types_of (list_trees (drop i vs)))) ≡ capped (at + length (types_of (list_trees vs))) → here ≡ capped (at + length (types_of (list_trees vs)))
letters_all vs i at here fits le so_far =
    let done : length (types_of (list_trees (drop i vs))) ≡ 0 = ap (λ (ws : List Value). length (types_of (list_trees ws))) (drop_all i vs le) in
    omega (arith, done, so_far)

pub letters_from_none : (vs : List Value) (i here : ℕ) → here < 2 ^ 64 → length vs ≤ i → capped (here + length (types_of (list_trees (drop i vs)))) ≡ capped (0 + length (types_of (list_trees vs))) → here ≡ capped (length (types_of (list_trees vs)))
letters_from_none vs i here fits le so_far = omega (arith, letters_all vs i 0 here fits le so_far)

pub letters_struct : (items : ValueList) (value : Value) (vs : List Value) (i at begun here final : ℕ) → here < 2 ^ 64 → value ≡ Struct items → vs ≡ items.items.items → length vs ≤ i → begun ≡ capped (at + 1)
    → capped (here + length (types_of (list_trees (drop i vs)))) ≡ capped (begun + length (types_of (list_trees vs))) → final ≡ capped (here + 1) → final ≡ capped (at + length (type_of (tree value)))
letters_struct items value vs i at begun here final fits value-is vs-is le begun-is so_far final-is =
    let T = types_of (list_trees vs) in
    let h : tree value ≡ trees.Struct (list_trees vs) = ap tree value-is ∙ tree_struct items ∙ ap (λ (ws : List Value). trees.Struct (list_trees ws)) (sym vs-is) in
    let size : length (type_of (tree value)) ≡ 1 + (length T + 1) = ap (λ (t : Tree). length (type_of t)) h ∙ omega (arith, length-append T (41 ∷ [])) in
    omega (arith, letters_all vs i begun here fits le so_far, size, begun-is, final-is)

pub letters_entry : (value : Value) (k v : Tree) (at begun first second final : ℕ) → tree value ≡ trees.Entry k v → begun ≡ capped (at + 1) → first ≡ capped (begun + length (type_of k)) → second ≡ capped (first + length (type_of v)) → final ≡ capped (second + 1) → final ≡ capped (at + length (type_of (tree value)))
letters_entry value k v at begun first second final is begun-is first-is second-is final-is =
    let size : length (type_of (tree value)) ≡ 1 + (length (type_of k) + (length (type_of v) + 1)) = ap (λ (t : Tree). length (type_of t)) is ∙ omega (arith, length-append (type_of k) (type_of v ++ 125 ∷ []), length-append (type_of v) (125 ∷ [])) in
    omega (arith, size, begun-is, first-is, second-is, final-is)

-- ---- values

word_size : (at n : ℕ) → length (padding (gap 4 at) ++ bytes_of false w32 n) ≡ gap 4 at + 4
word_size at n = omega (arith, length-append (padding (gap 4 at)) (bytes_of false w32 n), length-padding (gap 4 at), wide32.len false n)

pub bool_end : (value : Value) (b : Bool) (at end : ℕ) → value ≡ Truth b → end ≡ capped (at + gap 4 at + 4) → end ≡ capped (at + length (marshalled false at (tree value)))
bool_end value b at end is end-is =
    let size : length (marshalled false at (tree value)) ≡ gap 4 at + 4 = ap (λ (v : Value). length (marshalled false at (tree v))) is ∙ word_size at (cond b 1 0) in
    omega (arith, size, end-is)

pub u32_end : (value : Value) (n at end : ℕ) → value ≡ U32 n → end ≡ capped (at + gap 4 at + 4) → end ≡ capped (at + length (marshalled false at (tree value)))
u32_end value n at end is end-is =
    let size : length (marshalled false at (tree value)) ≡ gap 4 at + 4 = ap (λ (v : Value). length (marshalled false at (tree v))) is ∙ word_size at n in
    omega (arith, size, end-is)

pub u64_end : (value : Value) (n at end : ℕ) → value ≡ U64 n → end ≡ capped (at + gap 8 at + 8) → end ≡ capped (at + length (marshalled false at (tree value)))
u64_end value n at end is end-is =
    let size : length (marshalled false at (tree value)) ≡ gap 8 at + 8 = ap (λ (v : Value). length (marshalled false at (tree v))) is ∙ omega (arith, length-append (padding (gap 8 at)) (bytes_of false w64 n), length-padding (gap 8 at), wide64.len false n) in
    omega (arith, size, end-is)

text_size : (at : ℕ) (t : List ℕ) → length (padding (gap 4 at) ++ (bytes_of false w32 (length t) ++ (t ++ 0 ∷ []))) ≡ gap 4 at + 5 + length t
text_size at t = omega (arith, length-append (padding (gap 4 at)) (bytes_of false w32 (length t) ++ (t ++ 0 ∷ [])), length-append (bytes_of false w32 (length t)) (t ++ 0 ∷ []), length-append t (0 ∷ []), length-padding (gap 4 at), wide32.len false (length t))

pub text_end : (value : Value) (t u : List ℕ) (at begun end : ℕ) → value ≡ Text t → u ≡ t → begun ≡ capped (at + gap 4 at + 5) → end ≡ capped (begun + length u) → end ≡ capped (at + length (marshalled false at (tree value)))
text_end value t u at begun end is u-is begun-is end-is =
    let size : length (marshalled false at (tree value)) ≡ gap 4 at + 5 + length t = ap (λ (v : Value). length (marshalled false at (tree v))) is ∙ text_size at t in
    omega (arith, size, ap length u-is, begun-is, end-is)

-- one more value of several
pub values_more : (vs : List Value) (i : ℕ) (v : Value) (here next total : ℕ) → i < length vs → get_or vs i v ≡ v → next ≡ capped (here + length (marshalled false here (tree v)))
    → capped (here + length (all_marshalled false here (list_trees (drop i vs)))) ≡ total → capped (next + length (all_marshalled false next (list_trees (drop (i + 1) vs)))) ≡ total
values_more vs i v here next total lt is next-is so_far =
    let s = length (marshalled false here (tree v)) in
    let F : ℕ → ℕ = λ q. length (all_marshalled false q (list_trees (drop (i + 1) vs))) in
    let split : length (all_marshalled false here (list_trees (drop i vs))) ≡ s + F (here + s) = ap (λ (ws : List Value). length (all_marshalled false here (list_trees ws))) (front vs i v lt is) ∙ length-append (marshalled false here (tree v)) (all_marshalled false (here + s) (list_trees (drop (i + 1) vs))) in
    let on = chain F (here + s) next (capped (next + F next)) next-is refl in
    omega (arith, split, on, so_far)

pub values_all : (vs : List Value) (i at here : ℕ) → here < 2 ^ 64 → length vs ≤ i → capped (here + length (all_marshalled false here (list_trees (drop i vs)))) ≡ capped (at + length (all_marshalled false at (list_trees vs))) → here ≡ capped (at + length (all_marshalled false at (list_trees vs)))
values_all vs i at here fits le so_far =
    let done : length (all_marshalled false here (list_trees (drop i vs))) ≡ 0 = ap (λ (ws : List Value). length (all_marshalled false here (list_trees ws))) (drop_all i vs le) in
    omega (arith, done, so_far)

pub struct_end : (items : ValueList) (value : Value) (vs : List Value) (i at begun here : ℕ) → here < 2 ^ 64 → value ≡ Struct items → vs ≡ items.items.items → length vs ≤ i → begun ≡ capped (at + gap 8 at)
    → capped (here + length (all_marshalled false here (list_trees (drop i vs)))) ≡ capped (begun + length (all_marshalled false begun (list_trees vs))) → here ≡ capped (at + length (marshalled false at (tree value)))
struct_end items value vs i at begun here fits value-is vs-is le begun-is so_far =
    let F : ℕ → ℕ = λ q. length (all_marshalled false q (list_trees vs)) in
    let P = at + gap 8 at in
    let h : tree value ≡ trees.Struct (list_trees vs) = ap tree value-is ∙ tree_struct items ∙ ap (λ (ws : List Value). trees.Struct (list_trees ws)) (sym vs-is) in
    let size : length (marshalled false at (tree value)) ≡ gap 8 at + F P = ap (λ (t : Tree). length (marshalled false at t)) h ∙ omega (arith, length-append (padding (gap 8 at)) (all_marshalled false P (list_trees vs)), length-padding (gap 8 at)) in
    let on : here ≡ capped (P + F P) = chain F P begun here begun-is (values_all vs i begun here fits le so_far) in
    on ∙ ap capped (omega (arith, size))

pub array_end : (of sig : List ℕ) (items : ValueList) (value : Value) (vs : List Value) (i at counted begun here align : ℕ) → here < 2 ^ 64 → value ≡ Array of items → sig ≡ of → vs ≡ items.items.items → length vs ≤ i → counted ≡ capped (at + gap 4 at + 4) → align ≡ item_align sig → begun ≡ capped (counted + gap align counted)
    → capped (here + length (all_marshalled false here (list_trees (drop i vs)))) ≡ capped (begun + length (all_marshalled false begun (list_trees vs))) → here ≡ capped (at + length (marshalled false at (tree value)))
array_end of sig items value vs i at counted begun here align fits value-is sig-is vs-is le counted-is align-is begun-is so_far =
    let P = at + gap 4 at + 4 in
    let a = item_align of in
    let F : ℕ → ℕ = λ q. length (all_marshalled false q (list_trees vs)) in
    let al : align ≡ a = align-is ∙ ap item_align sig-is in
    let h : tree value ≡ trees.Array of (list_trees vs) = ap tree value-is ∙ tree_array of items ∙ ap (λ (ws : List Value). trees.Array of (list_trees ws)) (sym vs-is) in
    let inside = all_marshalled false (P + gap a P) (list_trees vs) in
    let size : length (marshalled false at (tree value)) ≡ gap 4 at + (4 + (gap a P + F (P + gap a P))) = ap (λ (t : Tree). length (marshalled false at t)) h
    ∙ omega (arith, length-append (padding (gap 4 at)) (bytes_of false w32 (length inside) ++ (padding (gap a P) ++ inside)), length-append (bytes_of false w32 (length inside)) (padding (gap a P) ++ inside), length-append (padding (gap a P)) inside, length-padding (gap 4 at), length-padding (gap a P), wide32.len false (length inside)) in
    let one : begun ≡ capped (P + gap a P) = chain (λ q. gap a q) P counted begun counted-is (begun-is ∙ ap (λ (q : ℕ). capped (counted + gap q counted)) al) in
    let on : here ≡ capped (P + gap a P + F (P + gap a P)) = chain F (P + gap a P) begun here one (values_all vs i begun here fits le so_far) in
    on ∙ ap capped (omega (arith, size))

pub entry_end : (value : Value) (k v : Tree) (at begun first final : ℕ) → tree value ≡ trees.Entry k v → begun ≡ capped (at + gap 8 at) → first ≡ capped (begun + length (marshalled false begun k)) → final ≡ capped (first + length (marshalled false first v)) → final ≡ capped (at + length (marshalled false at (tree value)))
entry_end value k v at begun first final is begun-is first-is final-is =
    let P = at + gap 8 at in
    let K : ℕ → ℕ = λ q. length (marshalled false q k) in
    let V : ℕ → ℕ = λ q. length (marshalled false q v) in
    let size : length (marshalled false at (tree value)) ≡ gap 8 at + K P + V (P + K P) = ap (λ (t : Tree). length (marshalled false at t)) is ∙ entry_size k v at in
    let one : first ≡ capped (P + K P) = chain K P begun first begun-is first-is in
    let on : final ≡ capped (P + K P + V (P + K P)) = chain V (P + K P) first final one final-is in
    on ∙ ap capped (omega (arith, size))

pub variant_end : (value : Value) (v : Tree) (at letters begun final : ℕ) → tree value ≡ trees.Variant v → letters ≡ capped (at + length (type_of v)) → begun ≡ capped (letters + 2) → final ≡ capped (begun + length (marshalled false begun v)) → final ≡ capped (at + length (marshalled false at (tree value)))
variant_end value v at letters begun final is letters-is begun-is final-is =
    let T = type_of v in
    let P = at + length T + 2 in
    let V : ℕ → ℕ = λ q. length (marshalled false q v) in
    let size : length (marshalled false at (tree value)) ≡ 1 + (length T + (1 + V P)) = ap (λ (t : Tree). length (marshalled false at t)) is ∙ omega (arith, length-append T (0 ∷ marshalled false P v)) in
    let one : begun ≡ capped P = omega (arith, letters-is, begun-is) in
    let on : final ≡ capped (P + V P) = chain V P begun final one final-is in
    on ∙ ap capped (omega (arith, size))

pub ruleset letter_rules = (capped_fits, letters_more, letters_all, letters_struct, letters_entry)

pub ruleset size_rules = (capped_fits, values_more, values_all, bool_end, u32_end, u64_end, text_end, struct_end, array_end, entry_end, variant_end)

-- ---- header fields

fields_split : (at : ℕ) (xs ys : List Field) → length (fields_bytes false at (xs ++ ys)) ≡ length (fields_bytes false at xs) + length (fields_bytes false (at + length (fields_bytes false at xs)) ys)
fields_split at [] ys = let same : length (fields_bytes false (at + 0) ys) ≡ length (fields_bytes false at ys) = ap (λ (q : ℕ). length (fields_bytes false q ys)) (omega arith) in omega (arith, same)
fields_split at (f ∷ fs) ys =
    let one = field_bytes false at f in
    let n = length one in
    let rest = fields_bytes false (at + n) fs in
    let k : at + n + length rest ≡ at + length (one ++ rest) = omega (arith, length-append one rest) in
    let same : length (fields_bytes false (at + n + length rest) ys) ≡ length (fields_bytes false (at + length (one ++ rest)) ys) = ap (λ (q : ℕ). length (fields_bytes false q ys)) k in
    omega (arith, length-append one (fields_bytes false (at + n) (fs ++ ys)), length-append one rest, fields_split (at + n) fs ys, same)

pub fields_more : (xs ys : List Field) (at mid end : ℕ) → mid ≡ capped (at + length (fields_bytes false at xs)) → end ≡ capped (mid + length (fields_bytes false mid ys)) → end ≡ capped (at + length (fields_bytes false at (xs ++ ys)))
fields_more xs ys at mid end mid-is end-is =
    chain (λ q. length (fields_bytes false q ys)) (at + length (fields_bytes false at xs)) mid end mid-is end-is ∙ ap capped (omega (arith, fields_split at xs ys))

-- a field is padding, its code, a signature of one letter, and the value
field_size : (at code letter : ℕ) (x : List ℕ) → length ((padding (gap 8 at) ++ (code ∷ (1 ∷ (letter ∷ (0 ∷ x))))) ++ []) ≡ gap 8 at + 4 + length x
field_size at code letter x = omega (arith, length-append (padding (gap 8 at) ++ (code ∷ (1 ∷ (letter ∷ (0 ∷ x))))) [], length-append (padding (gap 8 at)) (code ∷ (1 ∷ (letter ∷ (0 ∷ x)))), length-padding (gap 8 at))

text_field_size : (at code letter : ℕ) (t : List ℕ) → (letter ≡ 111) ⊎ (letter ≡ 115) → length (fields_bytes false at (text_field code letter (Some t))) ≡ gap 8 at + 9 + length t
text_field_size at code letter t which = go which where
  q : ℕ
  q = at + gap 8 at + 1 + 1 + 2

  none : gap 4 q ≡ 0
  none = omega arith

  plain : (l : ℕ) → length ((padding (gap 8 at) ++ (code ∷ (1 ∷ (l ∷ (0 ∷ (padding (gap 4 q) ++ (bytes_of false w32 (length t) ++ (t ++ 0 ∷ [])))))))) ++ []) ≡ gap 8 at + 9 + length t
  plain l = omega (arith, field_size at code l (padding (gap 4 q) ++ (bytes_of false w32 (length t) ++ (t ++ 0 ∷ []))), text_size q t, none)

  go : (letter ≡ 111) ⊎ (letter ≡ 115) → length (fields_bytes false at (text_field code letter (Some t))) ≡ gap 8 at + 9 + length t
  go (inl e) = subst (λ (l : ℕ). length (fields_bytes false at (text_field code l (Some t))) ≡ gap 8 at + 9 + length t) (sym e) (plain 111)
  go (inr e) = subst (λ (l : ℕ). length (fields_bytes false at (text_field code l (Some t))) ≡ gap 8 at + 9 + length t) (sym e) (plain 115)

number_field_size : (at n : ℕ) → length (fields_bytes false at (number_field (Some n))) ≡ gap 8 at + 8
number_field_size at n =
    let q = at + gap 8 at + 1 + 1 + 2 in
    let none : gap 4 q ≡ 0 = omega arith in
    omega (arith, field_size at 5 117 (padding (gap 4 q) ++ bytes_of false w32 n), word_size q n, none)

signature_field_size : (at : ℕ) (sig : List ℕ) → 1 ≤ length sig → length (fields_bytes false at (signature_field sig)) ≡ gap 8 at + 6 + length sig
signature_field_size at [] long = absurd (omega arith)
signature_field_size at (l ∷ sig) long =
    let q = at + gap 8 at + 1 + 1 + 2 in
    let none : gap 1 q ≡ 0 = omega arith in
    omega (arith, field_size at 8 103 (padding (gap 1 q) ++ (length (l ∷ sig) ∷ (l ∷ sig ++ 0 ∷ []))), length-append (padding (gap 1 q)) (length (l ∷ sig) ∷ (l ∷ sig ++ 0 ∷ [])), length-append (l ∷ sig) (0 ∷ []), length-padding (gap 1 q), none)

pub text_field_none : (o : Option (List ℕ)) (at code letter : ℕ) → at < 2 ^ 64 → o ≡ None → at ≡ capped (at + length (fields_bytes false at (text_field code letter o)))
text_field_none o at code letter fits is = let size : length (fields_bytes false at (text_field code letter o)) ≡ 0 = ap (λ (x : Option (List ℕ)). length (fields_bytes false at (text_field code letter x))) is in omega (arith, size)

pub text_field_some : (o : Option (List ℕ)) (t u : List ℕ) (at code letter begun end : ℕ) → (letter ≡ 111) ⊎ (letter ≡ 115) → o ≡ Some t → u ≡ t → begun ≡ capped (at + gap 8 at + 9) → end ≡ capped (begun + length u) → end ≡ capped (at + length (fields_bytes false at (text_field code letter o)))
text_field_some o t u at code letter begun end which is u-is begun-is end-is =
    let size : length (fields_bytes false at (text_field code letter o)) ≡ gap 8 at + 9 + length t = ap (λ (x : Option (List ℕ)). length (fields_bytes false at (text_field code letter x))) is ∙ text_field_size at code letter t which in
    omega (arith, size, ap length u-is, begun-is, end-is)

pub number_field_none : (o : Option ℕ) (at : ℕ) → at < 2 ^ 64 → o ≡ None → at ≡ capped (at + length (fields_bytes false at (number_field o)))
number_field_none o at fits is = let size : length (fields_bytes false at (number_field o)) ≡ 0 = ap (λ (x : Option ℕ). length (fields_bytes false at (number_field x))) is in omega (arith, size)

pub number_field_some : (o : Option ℕ) (n at end : ℕ) → o ≡ Some n → end ≡ capped (at + gap 8 at + 8) → end ≡ capped (at + length (fields_bytes false at (number_field o)))
number_field_some o n at end is end-is =
    let size : length (fields_bytes false at (number_field o)) ≡ gap 8 at + 8 = ap (λ (x : Option ℕ). length (fields_bytes false at (number_field x))) is ∙ number_field_size at n in
    omega (arith, size, end-is)

pub signature_none : (at letters : ℕ) → at < 2 ^ 64 → letters ≡ 0 → (sig : List ℕ) → letters ≡ capped (length sig) → at ≡ capped (at + length (fields_bytes false at (signature_field sig)))
signature_none at letters fits none [] is = omega arith
signature_none at letters fits none (c ∷ sig) is = absurd (omega (arith, is, none))

pub signature_some : (at letters begun end : ℕ) → letters ≢ 0 → begun ≡ capped (at + gap 8 at + 6) → end ≡ capped (begun + letters) → (sig : List ℕ) → letters ≡ capped (length sig) → end ≡ capped (at + length (fields_bytes false at (signature_field sig)))
signature_some at letters begun end some begun-is end-is sig is =
    let long : 1 ≤ length sig = omega (arith, is, some) in
    omega (arith, signature_field_size at sig long, begun-is, end-is, is)

-- ---- messages

pub message_end : (m : Message) (fields begun end : ℕ) → fields ≡ capped (16 + length (fields_bytes false 16 m.fields)) → begun ≡ capped (fields + gap 8 fields) → end ≡ capped (begun + length (all_marshalled false begun m.body)) → end ≡ capped (length (message_bytes false m))
message_end m fields begun end fields-is begun-is end-is =
    let P = 16 + length (fields_bytes false 16 m.fields) in
    let one : begun ≡ capped (P + gap 8 P) = chain (λ q. gap 8 q) P fields begun fields-is begun-is in
    chain (λ q. length (all_marshalled false q m.body)) (P + gap 8 P) begun end one end-is ∙ ap capped (sym (message_length m))
