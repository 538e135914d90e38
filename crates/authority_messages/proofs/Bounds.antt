-- How long messages without lists can become.
use Rattle.std.proofs.Common.{◌≡◌, ℕ, ◌+◌, ◌≤◌, List, [], ◌∷◌, ◌++◌, length, false, refl, ap, ◌∙◌, arith, length-append}
use Rattle.std.specs.Int.{w32}
use Rattle.dbus_values.specs.declared.codes.TheConstants.{MAX_MESSAGE}
use Rattle.dbus_values.specs.Basics.{gap}
use Rattle.dbus_values.specs.Signatures.{item_align}
use Rattle.dbus_values.specs.Trees.{Tree, Trees, none, more, type_of, types_of, bytes_of, padding, marshalled, all_marshalled}
use Rattle.dbus_values.specs.Trees as trees
use Rattle.dbus_values.specs.Form.{Field, Message, field_bytes, fields_bytes, message_bytes}
use Rattle.dbus_values.proofs.Numbers.{length-padding, wide32}
use Rattle.dbus_values.proofs.Sending.{message_length}
use Rattle.authority_model.specs.Words.{Bytes}
use Rattle.authority_messages.specs.Values.{string, array}

-- wherever a value, values or fields stand, they have at most so many bytes
abbrev pub Within : ℕ → Tree → Type 0
Within n t = (at : ℕ) → length (marshalled false at t) ≤ n

abbrev pub AllWithin : ℕ → Trees → Type 0
AllWithin n ts = (at : ℕ) → length (all_marshalled false at ts) ≤ n

abbrev pub FieldsWithin : ℕ → List Field → Type 0
FieldsWithin n fs = (at : ℕ) → length (fields_bytes false at fs) ≤ n

text_bytes_size : (at : ℕ) (t : Bytes) → length (padding (gap 4 at) ++ (bytes_of false w32 (length t) ++ (t ++ 0 ∷ []))) ≤ length t + 8
text_bytes_size at t = omega (arith, length-append (padding (gap 4 at)) (bytes_of false w32 (length t) ++ (t ++ 0 ∷ [])), length-append (bytes_of false w32 (length t)) (t ++ 0 ∷ []), length-append t (0 ∷ []), length-padding (gap 4 at), wide32.len false (length t))

pub string_within : (t : Bytes) (n : ℕ) → length t ≤ n → Within (n + 8) (string t)
string_within t n le at = omega (arith, text_bytes_size at t)

path_within : (t : Bytes) (n : ℕ) → length t ≤ n → Within (n + 8) (trees.Text 111 t)
path_within t n le at = omega (arith, text_bytes_size at t)

pub number_within : (m : ℕ) → Within 7 (trees.Number 117 m)
number_within m at = omega (arith, length-append (padding (gap 4 at)) (bytes_of false w32 m), length-padding (gap 4 at), wide32.len false m)

signature_within : (t : Bytes) (n : ℕ) → length t ≤ n → Within (n + 2) (trees.Text 103 t)
signature_within t n le at = omega (arith, length-append (padding (gap 1 at)) (length t ∷ (t ++ 0 ∷ [])), length-append t (0 ∷ []), length-padding (gap 1 at))

pub empty_within : (of : Bytes) → item_align of ≡ 8 → Within 14 (array of [])
empty_within of is at =
    let p = padding (gap (item_align of) (at + gap 4 at + 4)) in
    let g : length p ≡ gap 8 (at + gap 4 at + 4) = length-padding (gap (item_align of) (at + gap 4 at + 4)) ∙ ap (λ (a : ℕ). gap a (at + gap 4 at + 4)) is in
    omega (arith, length-append (padding (gap 4 at)) (bytes_of false w32 0 ++ (p ++ [])), length-append (bytes_of false w32 0) (p ++ []), length-append p [], length-padding (gap 4 at), wide32.len false 0, g)

pub none_within : AllWithin 0 none
none_within at = omega arith

pub more_within : (n m : ℕ) (t : Tree) (ts : Trees) → Within n t → AllWithin m ts → AllWithin (n + m) (more t ts)
more_within n m t ts first rest at =
    let a = marshalled false at t in
    omega (arith, length-append a (all_marshalled false (at + length a) ts), first at, rest (at + length a))

-- a field is a structure of its code and a variant
field_within : (n code letter : ℕ) (t : Tree) → type_of t ≡ letter ∷ [] → Within n t → (at : ℕ) → length (field_bytes false at (record { code = code; value = t })) ≤ n + 11
field_within n code letter t one within at =
    let T = type_of t in
    let size : length T ≡ 1 = ap length one in
    let place = at + gap 8 at + 1 + length T + 2 in
    omega (arith, length-append (padding (gap 8 at)) (code ∷ (length T ∷ (T ++ (0 ∷ marshalled false place t)))), length-append T (0 ∷ marshalled false place t), length-padding (gap 8 at), size, within place)

pub fields_none : FieldsWithin 0 []
fields_none at = omega arith

fields_more : (n m : ℕ) (f : Field) (fs : List Field) → ((at : ℕ) → length (field_bytes false at f) ≤ n) → FieldsWithin m fs → FieldsWithin (n + m) (f ∷ fs)
fields_more n m f fs first rest at =
    let a = field_bytes false at f in
    omega (arith, length-append a (fields_bytes false (at + length a) fs), first at, rest (at + length a))

pub string_field : (n m code : ℕ) (t : Bytes) (fs : List Field) → length t ≤ n → FieldsWithin m fs → FieldsWithin (n + 19 + m) (record { code = code; value = trees.Text 115 t } ∷ fs)
string_field n m code t fs le rest = fields_more (n + 19) m (record { code = code; value = trees.Text 115 t }) fs (λ at. omega (arith, field_within (n + 8) code 115 (trees.Text 115 t) refl (string_within t n le) at)) rest

pub path_field : (n m : ℕ) (t : Bytes) (fs : List Field) → length t ≤ n → FieldsWithin m fs → FieldsWithin (n + 19 + m) (record { code = 1; value = trees.Text 111 t } ∷ fs)
path_field n m t fs le rest = fields_more (n + 19) m (record { code = 1; value = trees.Text 111 t }) fs (λ at. omega (arith, field_within (n + 8) 1 111 (trees.Text 111 t) refl (path_within t n le) at)) rest

pub number_field : (m k : ℕ) (fs : List Field) → FieldsWithin m fs → FieldsWithin (18 + m) (record { code = 5; value = trees.Number 117 k } ∷ fs)
number_field m k fs rest = fields_more 18 m (record { code = 5; value = trees.Number 117 k }) fs (λ at. omega (arith, field_within 7 5 117 (trees.Number 117 k) refl (number_within k) at)) rest

pub signature_field : (n m : ℕ) (t : Bytes) (fs : List Field) → length t ≤ n → FieldsWithin m fs → FieldsWithin (n + 13 + m) (record { code = 8; value = trees.Text 103 t } ∷ fs)
signature_field n m t fs le rest = fields_more (n + 13) m (record { code = 8; value = trees.Text 103 t }) fs (λ at. omega (arith, field_within (n + 2) 8 103 (trees.Text 103 t) refl (signature_within t n le) at)) rest

-- a message of fields and a body
pub message_within : (m : Message) (n k : ℕ) → FieldsWithin n m.fields → AllWithin k m.body → n + k + 23 ≤ MAX_MESSAGE → length (message_bytes false m) ≤ MAX_MESSAGE
message_within m n k fields body le =
    let F = length (fields_bytes false 16 m.fields) in
    omega (arith, message_length m, fields 16, body (16 + F + gap 8 (16 + F)))
