-- A start tag that has the form is read again, whatever follows.
use Rattle.std.proofs.Common.{◌≡◌, ◌≢◌, ℕ, suc, ◌+◌, ◌-◌, ◌<◌, ◌≤◌, ◌==◌, List, [], ◌∷◌, ◌++◌, length, map, Bool, true, false, Ok, refl, sym, ap, ◌∙◌, arith, append_assoc, append-nil, length-append, true≢false}
use Rattle.std.specs.Prelude.{if◌then◌else◌}
use Rattle.std.specs.List.{flat_map}
use Rattle.std.proofs.lemmas.Bool.{ne_eqb}
use Rattle.pk_types.specs.declared.values.Pair.{Pair}
use Rattle.xml_pieces.specs.Reading.{◌>>=◌, On, Done, steps}
use Rattle.xml_pieces.specs.Bytes.{is_space, behind_spaces, is_name_start, behind_byte}
use Rattle.xml_pieces.specs.Texts.{Attribute, attribute, has, bad_id, one_more, tag_by, begins_spaced, tag_step, tag}
use Rattle.action_xml.specs.TextForm.{IsWhite, IsName, bits_bytes, bits_text}
use Rattle.action_xml.specs.TagForm.{Attr, attr_inner, attr_bytes, attr_pair, IsAttr, AreAttrs, AreFineIds, tag_end, tag_bytes}
use Rattle.action_xml.proofs.TextsAgain.{steps_first, steps_last}
use Rattle.action_xml.proofs.AttributesAgain.{white_before, attribute_again}

-- the first byte of a name is none that is no such byte
pub start_not : (b n : ℕ) → is_name_start b ≡ true → is_name_start n ≡ false → (b == n) ≡ false
start_not b n start other = ne_eqb b n (λ same. true≢false (sym start ∙ ap is_name_start same ∙ other))

pub start_no_space : (b : ℕ) → is_name_start b ≡ true → is_space b ≡ false
start_no_space b start = rw (start_not b 32 start refl, start_not b 9 start refl, start_not b 10 start refl, start_not b 13 start refl) refl

pub name_first : (n : List ℕ) → IsName n → (c : ℕ) × (more : List ℕ) × (n ≡ c ∷ more) × (is_name_start c ≡ true)
name_first [] is = absurd is
name_first (b ∷ n) is = (b, n, refl, is.0)

-- an attribute behind white space is one step
attr_step : (is_action : Bool) (so : List Pair) (front : List ℕ) (c : ℕ) (more : List ℕ) (x : Attribute) → front ≢ [] → IsWhite front → is_name_start c ≡ true
    → attribute (c ∷ more) ≡ Ok x → has x.name so ≡ false → bad_id is_action x.name x.value ≡ false
    → tag_step is_action (so, front ++ c ∷ more) ≡ Ok (On (so ++ (record { key = x.name; value = x.value }) ∷ [], x.rest))
unfolding tag_step
attr_step is_action so [] c more x some white start read new fine = absurd (some refl)
attr_step is_action so (w ∷ front) c more x some white start read new fine =
    let here : List ℕ = w ∷ (front ++ c ∷ more) in
    let behind : behind_spaces here ≡ c ∷ more = white_before (w ∷ front) c more white (start_no_space c start) in
    ap (λ t. tag_by is_action t so (behind_spaces here)) white.0
    ∙ ap (tag_by is_action true so) behind
    ∙ ap (λ t. if t then Ok (Done (record { attributes = so; is_empty = false; rest = more })) else (if c == 47 then (behind_byte 62 more more >>= λ rest. Ok (Done (record { attributes = so; is_empty = true; rest = rest }))) else (attribute (c ∷ more) >>= one_more is_action (c ∷ more) so))) (start_not c 62 start refl)
    ∙ ap (λ t. if t then (behind_byte 62 more more >>= λ rest. Ok (Done (record { attributes = so; is_empty = true; rest = rest }))) else (attribute (c ∷ more) >>= one_more is_action (c ∷ more) so)) (start_not c 47 start refl)
    ∙ ap (λ r. r >>= one_more is_action (c ∷ more) so) read
    ∙ rw (new, fine) refl

tag_attr_again : (is_action : Bool) (so : List Pair) (a : Attr) (rest : List ℕ) → IsAttr a → has a.name so ≡ false → bad_id is_action a.name (bits_text a.value) ≡ false
    → tag_step is_action (so, attr_bytes a ++ rest) ≡ Ok (On (so ++ attr_pair a ∷ [], rest))
tag_attr_again is_action so a rest is new fine =
    let n = name_first a.name is.name in
    let tail : List ℕ = a.left ++ 61 ∷ (a.right ++ a.quote ∷ (bits_bytes a.value ++ a.quote ∷ [])) in
    let more : List ℕ = (n.1 ++ tail) ++ rest in
    let inner : attr_inner a ++ rest ≡ n.0 ∷ more = ap (λ m. (m ++ tail) ++ rest) n.2 in
    let here : attr_bytes a ++ rest ≡ a.before ++ n.0 ∷ more = append_assoc a.before (attr_inner a) rest ∙ ap (λ r. a.before ++ r) inner in
    let read : attribute (n.0 ∷ more) ≡ Ok (record { name = a.name; value = bits_text a.value; rest = rest }) = ap attribute (sym inner) ∙ attribute_again rest a is in
    ap (λ bytes. tag_step is_action (so, bytes)) here
    ∙ attr_step is_action so a.before n.0 more (record { name = a.name; value = bits_text a.value; rest = rest }) is.before.0 is.before.1 n.3 read new fine

-- a start tag is as many steps as it has attributes
tag_attrs_again : (is_action : Bool) (so : List Pair) (rest : List ℕ) (attrs : List Attr) (n : ℕ) → AreAttrs so attrs → AreFineIds is_action attrs
    → steps (tag_step is_action) (length attrs + n) (so, flat_map attr_bytes attrs ++ rest) ≡ steps (tag_step is_action) n (so ++ map attr_pair attrs, rest)
tag_attrs_again is_action so rest [] n are fine =
    let k : length {A = Attr} [] + n ≡ n = omega arith in
    ap (λ m. steps (tag_step is_action) m (so, rest)) k ∙ ap (λ t. steps (tag_step is_action) n (t, rest)) (sym (append-nil so))
tag_attrs_again is_action so rest (a ∷ attrs) n are fine =
    let tail : List ℕ = flat_map attr_bytes attrs ++ rest in
    let k : length (a ∷ attrs) + n ≡ suc (length attrs + n) = omega arith in
    let e : (attr_bytes a ++ flat_map attr_bytes attrs) ++ rest ≡ attr_bytes a ++ tail = append_assoc (attr_bytes a) (flat_map attr_bytes attrs) rest in
    ap (λ m. steps (tag_step is_action) m (so, (attr_bytes a ++ flat_map attr_bytes attrs) ++ rest)) k
    ∙ ap (λ y. steps (tag_step is_action) (suc (length attrs + n)) (so, y)) e
    ∙ steps_first (tag_step is_action) (length attrs + n) (so, attr_bytes a ++ tail) (so ++ attr_pair a ∷ [], tail) (tag_attr_again is_action so a tail are.0 are.1 fine.0)
    ∙ tag_attrs_again is_action (so ++ attr_pair a ∷ []) rest attrs n are.2 fine.1
    ∙ ap (λ t. steps (tag_step is_action) n (t, rest)) (append_assoc so (attr_pair a ∷ []) (map attr_pair attrs))

attr_long : (a : Attr) → 0 < length (attr_bytes a)
attr_long a =
    let tail : List ℕ = a.right ++ a.quote ∷ (bits_bytes a.value ++ a.quote ∷ []) in
    omega (arith, length-append a.before (attr_inner a), length-append a.name (a.left ++ 61 ∷ tail), length-append a.left (61 ∷ tail))

attrs_long : (attrs : List Attr) → length attrs ≤ length (flat_map attr_bytes attrs)
attrs_long [] = omega arith
attrs_long (a ∷ attrs) = omega (arith, attr_long a, attrs_long attrs, length-append (attr_bytes a) (flat_map attr_bytes attrs))

-- behind the attributes the tag ends
tag_last_again : (is_action : Bool) (so : List Pair) (white : List ℕ) (is_empty : Bool) (rest : List ℕ) → IsWhite white
    → tag_step is_action (so, white ++ (tag_end is_empty ++ rest)) ≡ Ok (Done (record { attributes = so; is_empty = is_empty; rest = rest }))
unfolding tag_step behind_byte
tag_last_again is_action so white true rest is = ap (tag_by is_action (begins_spaced (white ++ 47 ∷ 62 ∷ rest)) so) (white_before white 47 (62 ∷ rest) is refl)
tag_last_again is_action so white false rest is = ap (tag_by is_action (begins_spaced (white ++ 62 ∷ rest)) so) (white_before white 62 rest is refl)

end_long : (is_empty : Bool) → 0 < length (tag_end is_empty)
end_long true = omega arith
end_long false = omega arith

pub tag_again : (is_action : Bool) (attrs : List Attr) (white : List ℕ) (is_empty : Bool) (rest : List ℕ) → AreAttrs [] attrs → AreFineIds is_action attrs → IsWhite white
    → tag is_action (tag_bytes attrs white is_empty ++ rest) ≡ Ok (record { attributes = map attr_pair attrs; is_empty = is_empty; rest = rest })
unfolding tag
tag_again is_action attrs white is_empty rest are fine is =
    let end : List ℕ = white ++ (tag_end is_empty ++ rest) in
    let bytes : List ℕ = flat_map attr_bytes attrs ++ end in
    let e : tag_bytes attrs white is_empty ++ rest ≡ bytes = append_assoc (flat_map attr_bytes attrs) (white ++ tag_end is_empty) rest ∙ ap (λ r. flat_map attr_bytes attrs ++ r) (append_assoc white (tag_end is_empty) rest) in
    let m : ℕ = length bytes - (length attrs + 1) in
    let k : length bytes ≡ length attrs + suc m = omega (arith, attrs_long attrs, end_long is_empty, length-append (flat_map attr_bytes attrs) end, length-append white (tag_end is_empty ++ rest), length-append (tag_end is_empty) rest) in
    ap (λ b. steps (tag_step is_action) (length b) ([], b)) e
    ∙ ap (λ n. steps (tag_step is_action) n ([], bytes)) k
    ∙ tag_attrs_again is_action [] end attrs (suc m) are fine
    ∙ steps_last (tag_step is_action) m (map attr_pair attrs, end) (record { attributes = map attr_pair attrs; is_empty = is_empty; rest = rest }) (tag_last_again is_action (map attr_pair attrs) white is_empty rest is)

-- only an action's `id` is judged
pub no_ids : (attrs : List Attr) → AreFineIds false attrs
no_ids [] = tt
no_ids (a ∷ attrs) = (refl, no_ids attrs)
