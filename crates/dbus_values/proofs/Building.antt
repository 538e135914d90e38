-- Values that are built: which trees they are, of which type, and that they have a form. These lemmas are
-- for callers that write messages.
use Rattle.std.proofs.Common.{◌≡◌, ℕ, suc, ◌<◌, ◌^◌, List, [], ◌∷◌, ◌++◌, Bool, true, false, Some, ap, sym, subst, ◌∙◌, append_assoc, lit<}
use Rattle.std.proofs.lemmas.List.{append-nil}
use Rattle.dbus_values.specs.declared.value.Value.{Value, Bool as Truth, U32, U64, Text, Struct, Array, Entry, Variant}
use Rattle.dbus_values.specs.declared.value.ValueList.{ValueList}
use Rattle.dbus_values.specs.Values.{values_of}
use Rattle.dbus_values.specs.Signatures.{after_type, is_signature}
use Rattle.dbus_values.specs.Basics.{is_text}
use Rattle.dbus_values.specs.Trees.{Tree, Trees, none, more, type_of, types_of, FitsAs, Fits, AllFit, Each, HasOne, IsItem, IsBasic}
use Rattle.dbus_values.specs.Trees as trees
use Rattle.dbus_values.specs.Written.{tree, list_trees}
use Rattle.dbus_values.proofs.Writing as writing

-- ---- the trees

pub struct_tree : (items : ValueList) → tree (Struct items) ≡ trees.Struct (list_trees (values_of items))
struct_tree items = writing.tree_struct items

pub array_tree : (of : List ℕ) (items : ValueList) → tree (Array of items) ≡ trees.Array of (list_trees (values_of items))
array_tree of items = writing.tree_array of items

pub entry_tree : (value : Value) (key mapped : _) → value ≡ Entry key mapped → tree value ≡ trees.Entry (tree key.value) (tree mapped.value)
entry_tree value key mapped is = ap tree is

pub variant_tree : (value : Value) (inner : _) → value ≡ Variant inner → tree value ≡ trees.Variant (tree inner.value)
variant_tree value inner is = ap tree is

-- ---- the types

pub struct_type : (items : ValueList) → type_of (tree (Struct items)) ≡ 40 ∷ (types_of (list_trees (values_of items)) ++ 41 ∷ [])
struct_type items = ap type_of (struct_tree items)

pub array_type : (of : List ℕ) (items : ValueList) → type_of (tree (Array of items)) ≡ 97 ∷ of
array_type of items = ap type_of (array_tree of items)

pub entry_type : (value : Value) (key mapped : _) → value ≡ Entry key mapped → type_of (tree value) ≡ 123 ∷ (type_of (tree key.value) ++ (type_of (tree mapped.value) ++ 125 ∷ []))
entry_type value key mapped is = ap type_of (entry_tree value key mapped is)

pub variant_type : (value : Value) (inner : _) → value ≡ Variant inner → type_of (tree value) ≡ 118 ∷ []
variant_type value inner is = ap type_of (variant_tree value inner is)

-- ---- rows of values

-- the signature of a list with one more value
pub types_push : (vs : List Value) (v : Value) → types_of (list_trees (vs ++ v ∷ [])) ≡ types_of (list_trees vs) ++ type_of (tree v)
types_push [] v = append-nil (type_of (tree v))
types_push (w ∷ vs) v = ap (λ (x : List ℕ). type_of (tree w) ++ x) (types_push vs v) ∙ sym (append_assoc (type_of (tree w)) (types_of (list_trees vs)) (type_of (tree v)))

-- what holds of each value of a list, and of one more
pub each_push : (P : Tree → Type 0) (vs : List Value) (v : Value) → Each P (list_trees vs) → P (tree v) → Each P (list_trees (vs ++ v ∷ []))
each_push P [] v each holds = (holds, tt)
each_push P (w ∷ vs) v each holds = (each.0, each_push P vs v each.1 holds)

pub one_pushed : (vs : List Value) (v : Value) → HasOne (list_trees (vs ++ v ∷ []))
one_pushed [] v = tt
one_pushed (w ∷ vs) v = tt

-- ---- forms

pub bool_fits : (item : Bool) (d : ℕ) (b : Bool) → FitsAs item d (tree (Truth b))
unfolding FitsAs
bool_fits item d true = lit< tt
bool_fits item d false = lit< tt

pub u32_fits : (item : Bool) (d n : ℕ) → n < 2 ^ 32 → FitsAs item d (tree (U32 n))
unfolding FitsAs
u32_fits item d n lt = lt

pub u64_fits : (item : Bool) (d n : ℕ) → n < 2 ^ 64 → FitsAs item d (tree (U64 n))
unfolding FitsAs
u64_fits item d n lt = lt

pub text_fits : (item : Bool) (d : ℕ) (t : List ℕ) → is_text t ≡ true → FitsAs item d (tree (Text t))
unfolding FitsAs
text_fits item d t is = is

-- a structure of at least one member
pub struct_fits : (item : Bool) (d : ℕ) (items : ValueList) → HasOne (list_trees (values_of items)) → AllFit d (list_trees (values_of items)) → FitsAs item (suc d) (tree (Struct items))
unfolding FitsAs
struct_fits item d items one each = subst (λ (t : Tree). FitsAs item (suc d) t) (sym (struct_tree items)) (one, each)

-- an array of items of its type
pub array_fits : (item : Bool) (d : ℕ) (of : List ℕ) (items : ValueList) → IsItem of → Each (λ t. (type_of t ≡ of) × FitsAs true d t) (list_trees (values_of items)) → FitsAs item (suc d) (tree (Array of items))
unfolding FitsAs
array_fits item d of items is each = subst (λ (t : Tree). FitsAs item (suc d) t) (sym (array_tree of items)) (is, each)

-- a dict entry, which is an item of an array
pub entry_fits : (d : ℕ) (value : Value) (key mapped : _) → value ≡ Entry key mapped → IsBasic (tree key.value) → Fits d (tree key.value) → Fits d (tree mapped.value) → FitsAs true (suc d) (tree value)
unfolding FitsAs
entry_fits d value key mapped is basic first second = subst (λ (t : Tree). FitsAs true (suc d) t) (sym (entry_tree value key mapped is)) (basic, first, second)

-- a variant of one complete type
pub variant_fits : (item : Bool) (d : ℕ) (value : Value) (inner : _) → value ≡ Variant inner → is_signature (type_of (tree inner.value)) ≡ true → after_type (type_of (tree inner.value)) ≡ Some [] → Fits d (tree inner.value) → FitsAs item (suc d) (tree value)
unfolding FitsAs
variant_fits item d value inner is sig one fits = subst (λ (t : Tree). FitsAs item (suc d) t) (sym (variant_tree value inner is)) (sig, one, fits)
