-- How values are built: what is at hand of a value, of a row and of an array.
use Rattle.std.proofs.Common.{◌≡◌, ℕ, zero, suc, ◌+◌, ◌<◌, ◌≤◌, ◌^◌, List, [], ◌∷◌, ◌++◌, map, length, take, get_or, Bool, true, false, Some, Result, Ok, Err, OnOk, IfOk, refl, ap, sym, subst, ◌∙◌, arith}
use Rattle.std.proofs.lemmas.List.{map-append, take_more, take_all}
use Rattle.std.specs.Prelude.{codes}
use Rattle.pk_types.specs.Text.{IsText}
use Rattle.dbus_values.specs.declared.value.Value.{Value, Bool as Truth, U32, U64, Text, Struct, Array}
use Rattle.dbus_values.specs.declared.value.ValueList.{ValueList}
use Rattle.dbus_values.specs.Values.{values_of}
use Rattle.dbus_values.specs.Signatures.{after_type, is_signature}
use Rattle.dbus_values.specs.Trees.{Tree, Trees, none, more, type_of, FitsAs, AllFit, Each, HasOne, IsItem, IsBasic, Entry, Variant}
use Rattle.dbus_values.specs.Trees as trees
use Rattle.dbus_values.specs.Written.{tree, list_trees}
use Rattle.dbus_values.proofs.Building.{struct_tree, array_tree, bool_fits}
use Rattle.dbus_values.proofs.TextForm.{text_is}
use Rattle.authority_model.specs.Words.{Bytes}
use Rattle.authority_messages.specs.Values.{string, boolean, uint32, uint64, row, struct, array, keyed, known_by}
use Rattle.authority_messages.specs.Built.{Builds, Rows, Items, Adds}

-- ---- values of basic types

pub string_fits : (item : Bool) (d : ℕ) (t : Bytes) → IsText t → FitsAs item d (string t)
unfolding FitsAs
string_fits item d t is = text_is t is

pub string_built : (item : Bool) (t : Bytes) → IsText t → Builds item 0 (Text t) (string t)
string_built item t is = record { is = refl; fits = λ d le. string_fits item d t is }

pub string_copied : (copy mid t : Bytes) → copy ≡ mid → mid ≡ t → IsText t → Builds false 0 (Text copy) (string t)
string_copied copy mid t first second is = subst (λ (x : Bytes). Builds false 0 (Text x) (string t)) (sym (first ∙ second)) (string_built false t is)

pub boolean_built : (item : Bool) (b : Bool) → Builds item 0 (Truth b) (boolean b)
boolean_built item b = record { is = refl; fits = λ d le. bool_fits item d b }

pub uint32_fits : (item : Bool) (d n : ℕ) → n < 2 ^ 32 → FitsAs item d (uint32 n)
unfolding FitsAs
uint32_fits item d n lt = lt

pub uint64_fits : (item : Bool) (d n : ℕ) → n < 2 ^ 64 → FitsAs item d (uint64 n)
unfolding FitsAs
uint64_fits item d n lt = lt

pub uint32_built : (item : Bool) (n : ℕ) → n < 2 ^ 32 → Builds item 0 (U32 n) (uint32 n)
uint32_built item n lt = record { is = refl; fits = λ d le. uint32_fits item d n lt }

pub uint64_built : (item : Bool) (n : ℕ) → n < 2 ^ 64 → Builds item 0 (U64 n) (uint64 n)
uint64_built item n lt = record { is = refl; fits = λ d le. uint64_fits item d n lt }

-- ---- rows

list_push : (vs : List Value) (v : Value) (ts : List Tree) (t : Tree) → list_trees vs ≡ row ts → tree v ≡ t → list_trees (vs ++ v ∷ []) ≡ row (ts ++ t ∷ [])
list_push [] v [] t same is = ap (λ (x : Tree). more x none) is
list_push [] v (u ∷ us) t same is = absurd (cc)
list_push (w ∷ ws) v [] t same is = absurd (cc)
list_push (w ∷ ws) v (u ∷ us) t same is =
    let head : tree w ≡ u = cc in
    let rest : list_trees ws ≡ row us = cc in
    let tail : list_trees (ws ++ v ∷ []) ≡ row (us ++ t ∷ []) = list_push ws v us t rest is in
    ap (λ (x : Tree). more x (list_trees (ws ++ v ∷ []))) head ∙ ap (λ (x : Trees). more u x) tail

pub row_push : (P : Tree → Type 0) (ts : List Tree) (t : Tree) → Each P (row ts) → P t → Each P (row (ts ++ t ∷ []))
row_push P [] t each holds = (holds, tt)
row_push P (u ∷ us) t each holds = (each.0, row_push P us t each.1 holds)

pub added : (old new : ValueList) (v : Value) (deep : ℕ) (t : Tree) → values_of new ≡ values_of old ++ v ∷ [] → Builds false deep v t → Adds old new deep t
added old new v deep t pushed built ts k rows = record {
  are = ap list_trees pushed ∙ list_push (values_of old) v ts t rows.are built.is;
  fit = λ d le. row_push (FitsAs false d) ts t (rows.fit d (omega arith)) (built.fits d (omega arith));
}

pub added_ok : {T E : Type 0} (old new : ValueList) (v : Value) (r : Result T E) → OnOk r (values_of new ≡ values_of old ++ v ∷ []) → OnOk r ((deep : ℕ) (t : Tree) → Builds false deep v t → Adds old new deep t)
added_ok old new v (Ok x) pushed = λ deep t built. added old new v deep t pushed built
added_ok old new v (Err e) pushed = tt

pub add_ok : {T E : Type 0} (old new : ValueList) (v : Value) (deep : ℕ) (t : Tree) (r : Result T E) → Builds false deep v t → OnOk r ((deep : ℕ) (t : Tree) → Builds false deep v t → Adds old new deep t) → OnOk r (Adds old new deep t)
add_ok old new v deep t (Ok x) built adds = adds deep t built
add_ok old new v deep t (Err e) built adds = tt

-- ---- containers

struct_fits : (deep : ℕ) (t : Tree) (ts : List Tree) → ((d : ℕ) → deep ≤ d → AllFit d (row (t ∷ ts))) → (d : ℕ) → suc deep ≤ d → FitsAs false d (struct (t ∷ ts))
unfolding FitsAs
struct_fits deep t ts fit zero le = absurd (omega arith)
struct_fits deep t ts fit (suc d) le = (tt, fit d (omega arith))

pub struct_built : (members : ValueList) (deep : ℕ) (t : Tree) (ts : List Tree) → Rows deep members (t ∷ ts) → Builds false (suc deep) (Struct members) (struct (t ∷ ts))
struct_built members deep t ts rows = record {
  is = struct_tree members ∙ ap (λ (x : Trees). trees.Struct x) rows.are;
  fits = struct_fits deep t ts rows.fit;
}

array_fits : (of : Bytes) (deep : ℕ) (ts : List Tree) → IsItem of → ((d : ℕ) → deep ≤ d → Each (λ t. (type_of t ≡ of) × FitsAs true d t) (row ts)) → (d : ℕ) → suc deep ≤ d → FitsAs false d (array of ts)
unfolding FitsAs
array_fits of deep ts is fit zero le = absurd (omega arith)
array_fits of deep ts is fit (suc d) le = (is, fit d (omega arith))

pub array_built : (of : Bytes) (items : ValueList) (deep : ℕ) (ts : List Tree) → IsItem of → Items deep of items ts → Builds false (suc deep) (Array of items) (array of ts)
array_built of items deep ts is rows = record {
  is = array_tree of items ∙ ap (λ (x : Trees). trees.Array of x) rows.are;
  fits = array_fits of deep ts is rows.fit;
}

pub array_copied : (copy of : Bytes) (items : ValueList) → copy ≡ of → IsItem of → (deep : ℕ) (ts : List Tree) → Items deep of items ts → Builds false (suc deep) (Array copy items) (array of ts)
array_copied copy of items same is deep ts rows = subst (λ (x : Bytes). Builds false (suc deep) (Array x items) (array of ts)) (sym same) (array_built of items deep ts is rows)

pub no_items : (deep : ℕ) (of : Bytes) (list : ValueList) → values_of list ≡ [] → Items deep of list []
no_items deep of list none-is = record { are = ap list_trees none-is; fit = λ d le. tt }

entry_fits : (kt : Bytes) (mt : Tree) (deep : ℕ) → ((d : ℕ) → 0 ≤ d → FitsAs false d (string kt)) → ((d : ℕ) → deep ≤ d → FitsAs false d mt) → (d : ℕ) → suc deep ≤ d → FitsAs true d (Entry (string kt) mt)
unfolding FitsAs
entry_fits kt mt deep key mapped zero le = absurd (omega arith)
entry_fits kt mt deep key mapped (suc d) le = (tt, key d (omega arith), mapped d (omega arith))

pub entry_ok : {E : Type 0} (r : Result Value E) (k m : Value) (kt : Bytes) (mt : Tree) (deep : ℕ) → Builds false 0 k (string kt) → Builds false deep m mt → IfOk r (λ v. tree v ≡ Entry (tree k) (tree m)) → IfOk r (λ v. Builds true (suc deep) v (Entry (string kt) mt))
entry_ok (Ok v) k m kt mt deep key mapped is = record {
  is = is ∙ ap (λ (x : Tree). Entry x (tree m)) key.is ∙ ap (λ (x : Tree). Entry (string kt) x) mapped.is;
  fits = entry_fits kt mt deep key.fits mapped.fits;
}
entry_ok (Err e) k m kt mt deep key mapped is = tt

variant_fits : (t : Tree) (deep : ℕ) → is_signature (type_of t) ≡ true → after_type (type_of t) ≡ Some [] → ((d : ℕ) → deep ≤ d → FitsAs false d t) → (d : ℕ) → suc deep ≤ d → FitsAs false d (Variant t)
unfolding FitsAs
variant_fits t deep sig one fit zero le = absurd (omega arith)
variant_fits t deep sig one fit (suc d) le = (sig, one, fit d (omega arith))

pub variant_built : (v inner : Value) (t : Tree) (deep : ℕ) → is_signature (type_of t) ≡ true → after_type (type_of t) ≡ Some [] → Builds false deep inner t → tree v ≡ Variant (tree inner) → Builds false (suc deep) v (Variant t)
variant_built v inner t deep sig one built is = record { is = is ∙ ap (λ (x : Tree). Variant x) built.is; fits = variant_fits t deep sig one built.fits }

-- what an array is made of
pub array_ok : {E : Type 0} (r : Result Value E) (of : Bytes) (items : ValueList) (deep : ℕ) (ts : List Tree) → Items deep of items ts → IfOk r (λ v. (deep : ℕ) (ts : List Tree) → Items deep of items ts → Builds false (suc deep) v (array of ts)) → IfOk r (λ v. Builds false (suc deep) v (array of ts))
array_ok (Ok v) of items deep ts rows builds = builds deep ts rows
array_ok (Err e) of items deep ts rows builds = tt

-- one more item in an array, of what comes at a place of a list
pub items_more : {A : Type 0} (f : A → Tree) (deep : ℕ) (of : Bytes) (xs : List A) (i : ℕ) (x : A) (old new : ValueList) (v : Value)
    → i < length xs → get_or xs i x ≡ x → values_of new ≡ values_of old ++ v ∷ [] → Builds true deep v (f x) → type_of (f x) ≡ of
    → Items deep of old (map f (take i xs)) → Items deep of new (map f (take (i + 1) xs))
items_more f deep of xs i x old new v lt at pushed built typed items =
    let next : map f (take (i + 1) xs) ≡ map f (take i xs) ++ f x ∷ [] =
    ap (map f) (take_more xs i x lt) ∙ map-append f (take i xs) (get_or xs i x ∷ []) ∙ ap (λ (y : _). map f (take i xs) ++ f y ∷ []) at in
    subst (λ (ts : List Tree). Items deep of new ts) (sym next) (record {
      are = ap list_trees pushed ∙ list_push (values_of old) v (map f (take i xs)) (f x) items.are built.is;
      fit = λ d le. row_push (λ t. (type_of t ≡ of) × FitsAs true d t) (map f (take i xs)) (f x) (items.fit d le) (typed, built.fits d le);
    })

pub items_put : (deep : ℕ) (of : Bytes) (ts : List Tree) (t : Tree) (old new : ValueList) (v : Value) → Items deep of old ts → Builds true deep v t → type_of t ≡ of → values_of new ≡ values_of old ++ v ∷ [] → Items deep of new (ts ++ t ∷ [])
items_put deep of ts t old new v items built typed pushed = record {
  are = ap list_trees pushed ∙ list_push (values_of old) v ts t items.are built.is;
  fit = λ d le. row_push (λ t. (type_of t ≡ of) × FitsAs true d t) ts t (items.fit d le) (typed, built.fits d le);
}

-- the same of an item that is copied
pub items_more_at : {A : Type 0} (f : A → Tree) (deep : ℕ) (of : Bytes) (xs : List A) (i : ℕ) (d : A) (old new : ValueList) (v : Value)
    → i < length xs → values_of new ≡ values_of old ++ v ∷ [] → Builds true deep v (f (get_or xs i d)) → type_of (f (get_or xs i d)) ≡ of
    → Items deep of old (map f (take i xs)) → Items deep of new (map f (take (i + 1) xs))
items_more_at f deep of xs i d old new v lt pushed built typed items =
    let next : map f (take (i + 1) xs) ≡ map f (take i xs) ++ f (get_or xs i d) ∷ [] = ap (map f) (take_more xs i d lt) ∙ map-append f (take i xs) (get_or xs i d ∷ []) in
    subst (λ (ts : List Tree). Items deep of new ts) (sym next) (items_put deep of (map f (take i xs)) (f (get_or xs i d)) old new v items built typed pushed)

pub items_all : {A : Type 0} (f : A → Tree) (deep : ℕ) (of : Bytes) (xs : List A) (i : ℕ) (list : ValueList) → length xs ≤ i → Items deep of list (map f (take i xs)) → Items deep of list (map f xs)
items_all f deep of xs i list le items = subst (λ (ys : List _). Items deep of list (map f ys)) (take_all i xs le) items

-- ---- kinds and what they are known by

abbrev pub Keys : Bytes → Value → Value → Type 0
Keys key value v = (t : Tree) → is_signature (type_of t) ≡ true → after_type (type_of t) ≡ Some [] → Builds false 0 value t → Builds true 2 v (keyed key t)

abbrev pub Knows : Bytes → ValueList → Value → Type 0
Knows kind entries v = (ts : List Tree) → Items 2 (codes "{sv}") entries ts → Builds false 4 v (known_by kind ts)

abbrev pub KnowsOne : Bytes → Bytes → Value → Value → Type 0
KnowsOne kind key value v = (t : Tree) → is_signature (type_of t) ≡ true → after_type (type_of t) ≡ Some [] → Builds false 0 value t → Builds false 4 v (known_by kind (keyed key t ∷ []))

pub keyed_ok : {E : Type 0} (r : Result Value E) (k m inner : Value) (text key : Bytes) → text ≡ key → Builds false 0 k (string text) → tree m ≡ Variant (tree inner) → IfOk r (λ v. tree v ≡ Entry (tree k) (tree m)) → IfOk r (Keys key inner)
keyed_ok {E} (Ok v) k m inner text key same built wrapped is = λ t sig one inside.
    subst (λ (x : Bytes). Builds true 2 v (keyed x t)) same (entry_ok {E = E} (Ok v) k m text (Variant t) 1 built (variant_built m inner t 0 sig one inside wrapped) is)
keyed_ok (Err e) k m inner text key same built wrapped is = tt

pub known_ok : {E : Type 0} (r : Result Value E) (kind : Bytes) (entries : ValueList) (ts : List Tree) → Items 2 (codes "{sv}") entries ts → IfOk r (Knows kind entries) → IfOk r (λ v. Builds false 4 v (known_by kind ts))
known_ok (Ok v) kind entries ts items knows = knows ts items
known_ok (Err e) kind entries ts items knows = tt

pub one_ok : {E : Type 0} (r : Result Value E) (kind key : Bytes) (old new : ValueList) (entry value : Value) → values_of old ≡ [] → values_of new ≡ values_of old ++ entry ∷ [] → Keys key value entry → IfOk r (Knows kind new) → IfOk r (KnowsOne kind key value)
one_ok (Ok v) kind key old new entry value none-is pushed keys knows = λ t sig one built.
    knows (keyed key t ∷ []) (items_put 2 (codes "{sv}") [] (keyed key t) old new entry (no_items 2 (codes "{sv}") old none-is) (keys t sig one built) refl pushed)
one_ok (Err e) kind key old new entry value none-is pushed keys knows = tt

pub one_at : {E : Type 0} (r : Result Value E) (kind key : Bytes) (value : Value) (t : Tree) → is_signature (type_of t) ≡ true → after_type (type_of t) ≡ Some [] → Builds false 0 value t → IfOk r (KnowsOne kind key value) → IfOk r (λ v. Builds false 4 v (known_by kind (keyed key t ∷ [])))
one_at (Ok v) kind key value t sig one built knows = knows t sig one built
one_at (Err e) kind key value t sig one built knows = tt

-- ---- items

-- what stands anywhere may be an item

item_fits : (d : ℕ) (t : Tree) → FitsAs false d t → FitsAs true d t
unfolding FitsAs
item_fits d (trees.Number c n) f = f
item_fits d (trees.Text c t) f = f
item_fits zero (trees.Array s ts) f = f
item_fits (suc d) (trees.Array s ts) f = f
item_fits zero (trees.Struct ts) f = f
item_fits (suc d) (trees.Struct ts) f = f
item_fits zero (trees.Entry k v) f = absurd f
item_fits (suc d) (trees.Entry k v) f = absurd f
item_fits zero (trees.Variant t) f = f
item_fits (suc d) (trees.Variant t) f = f

pub as_item : (deep : ℕ) (v : Value) (t : Tree) → Builds false deep v t → Builds true deep v t
as_item deep v t built = record { is = built.is; fits = λ d le. item_fits d t (built.fits d le) }
