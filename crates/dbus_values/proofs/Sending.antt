-- Messages that are written: the header fields, and the lengths that are filled in at the end.
use Rattle.std.proofs.Common.{◌≡◌, ℕ, ◌+◌, ◌-◌, ◌<◌, ◌≤◌, ◌^◌, List, [], ◌∷◌, ◌++◌, length, take, drop, true, false, Option, Some, refl, ap, sym, subst, ◌∙◌, append_assoc, arith, length-append, inl, inr, ◌⊎◌, lit<, lit≤}
use Rattle.std.proofs.lemmas.List.{append-nil, take_at, drop_at}
use Rattle.std.specs.Int.{w32}
use Rattle.dbus_values.specs.declared.codes.TheConstants.{MAX_MESSAGE}
use Rattle.dbus_values.specs.declared.value.Value.{Value, Bool as Truth, Struct, Array}
use Rattle.dbus_values.specs.declared.value.ValueList.{ValueList}
use Rattle.dbus_values.specs.Basics.{gap, is_text}
use Rattle.std.specs.Str.{is_utf8, chars}
use Rattle.std.specs.Char.{encode_utf8}
use Rattle.dbus_values.specs.Signatures.{type_end, members_end, are_types}
use Rattle.dbus_values.specs.Trees.{Tree, Trees, types_of, padding, marshalled, all_marshalled, bytes_of, FitsAs, Each}
use Rattle.dbus_values.specs.Trees as trees
use Rattle.dbus_values.specs.Form.{Field, Message, field_bytes, fields_bytes, message_bytes, IsMessage, shown_of}
use Rattle.dbus_values.specs.Written.{tree, list_trees, AllForm, text_field, number_field, signature_field}
use Rattle.dbus_values.proofs.Numbers.{length-padding, wide32}
use Rattle.dbus_values.specs.Header.{Header, no_fields}
use Rattle.dbus_values.specs.Next.{Whole, next_of}
use Rattle.dbus_values.specs.Form.{IsKnown, IsUnknown, AreFields, put, WireForm}
use Rattle.dbus_values.specs.declared.wire_out.WireOut.{WireOut}
use Rattle.dbus_values.specs.Written.{message_out}
use Rattle.dbus_values.proofs.Writing.{length-padded, each_forms, signature_short, tree_struct, tree_array}
use Rattle.dbus_values.proofs.Whole.{read_again}

-- ---- header fields

-- where the value of a field with a signature of one letter begins
field_place : (code letter : ℕ) (old a b c : List ℕ) → a ≡ old ++ padding (gap 8 (length old)) → b ≡ a ++ code ∷ [] → c ≡ b ++ (1 ∷ letter ∷ 0 ∷ []) → length c ≡ length old + gap 8 (length old) + 1 + 1 + 2
field_place code letter old a b c a-is b-is c-is = omega (arith, ap length a-is, length-padded old (gap 8 (length old)), ap length b-is, length-append a (code ∷ []), ap length c-is, length-append b (1 ∷ letter ∷ 0 ∷ []))

field_front : (code letter : ℕ) (old a b c x final : List ℕ) → a ≡ old ++ padding (gap 8 (length old)) → b ≡ a ++ code ∷ [] → c ≡ b ++ (1 ∷ letter ∷ 0 ∷ []) → final ≡ c ++ x → final ≡ old ++ ((padding (gap 8 (length old)) ++ (code ∷ (1 ∷ (letter ∷ (0 ∷ x))))) ++ [])
field_front code letter old a b c x final a-is b-is c-is final-is =
    let g = padding (gap 8 (length old)) in
    let all = code ∷ (1 ∷ (letter ∷ (0 ∷ x))) in
    final-is ∙ ap (λ (y : List ℕ). y ++ x) (c-is ∙ ap (λ (y : List ℕ). y ++ (1 ∷ letter ∷ 0 ∷ [])) (b-is ∙ ap (λ (y : List ℕ). y ++ code ∷ []) a-is))
    ∙ append_assoc ((old ++ g) ++ code ∷ []) (1 ∷ letter ∷ 0 ∷ []) x ∙ append_assoc (old ++ g) (code ∷ []) (1 ∷ letter ∷ 0 ∷ x) ∙ append_assoc old g all ∙ ap (λ (y : List ℕ). old ++ y) (sym (append-nil (g ++ all)))

pub number_done : (n : ℕ) (old a b c d final : List ℕ) → a ≡ old ++ padding (gap 8 (length old)) → b ≡ a ++ 5 ∷ [] → c ≡ b ++ (1 ∷ 117 ∷ 0 ∷ []) → d ≡ c ++ padding (gap 4 (length c)) → final ≡ d ++ bytes_of false w32 n → final ≡ old ++ fields_bytes false (length old) (number_field (Some n))
number_done n old a b c d final a-is b-is c-is d-is final-is =
    let place = field_place 5 117 old a b c a-is b-is c-is in
    let x = padding (gap 4 (length c)) ++ bytes_of false w32 n in
    let f : final ≡ c ++ x = final-is ∙ ap (λ (y : List ℕ). y ++ bytes_of false w32 n) d-is ∙ append_assoc c (padding (gap 4 (length c))) (bytes_of false w32 n) in
    field_front 5 117 old a b c x final a-is b-is c-is f ∙ ap (λ (q : ℕ). old ++ ((padding (gap 8 (length old)) ++ (5 ∷ (1 ∷ (117 ∷ (0 ∷ (padding (gap 4 q) ++ bytes_of false w32 n)))))) ++ [])) place

pub text_done : (code letter : ℕ) (t old a b c d final : List ℕ) → (letter ≡ 111) ⊎ (letter ≡ 115) → a ≡ old ++ padding (gap 8 (length old)) → b ≡ a ++ code ∷ [] → c ≡ b ++ (1 ∷ letter ∷ 0 ∷ []) → d ≡ c ++ padding (gap 4 (length c)) → final ≡ d ++ (bytes_of false w32 (length t) ++ (t ++ 0 ∷ []))
    → final ≡ old ++ fields_bytes false (length old) (text_field code letter (Some t))
text_done code letter t old a b c d final which a-is b-is c-is d-is final-is =
    let place = field_place code letter old a b c a-is b-is c-is in
    let v = bytes_of false w32 (length t) ++ (t ++ 0 ∷ []) in
    let x = padding (gap 4 (length c)) ++ v in
    let f : final ≡ c ++ x = final-is ∙ ap (λ (y : List ℕ). y ++ v) d-is ∙ append_assoc c (padding (gap 4 (length c))) v in
    let Q = length old + gap 8 (length old) + 1 + 1 + 2 in
    field_front code letter old a b c x final a-is b-is c-is f ∙ ap (λ (q : ℕ). old ++ ((padding (gap 8 (length old)) ++ (code ∷ (1 ∷ (letter ∷ (0 ∷ (padding (gap 4 q) ++ v)))))) ++ [])) place ∙ go letter which where
      go : (l : ℕ) → (l ≡ 111) ⊎ (l ≡ 115) → old ++ ((padding (gap 8 (length old)) ++ (code ∷ (1 ∷ (l ∷ (0 ∷ (padding (gap 4 (length old + gap 8 (length old) + 1 + 1 + 2)) ++ (bytes_of false w32 (length t) ++ (t ++ 0 ∷ [])))))))) ++ []) ≡ old ++ fields_bytes false (length old) (text_field code l (Some t))
      go l (inl e) = subst (λ (l : ℕ). old ++ ((padding (gap 8 (length old)) ++ (code ∷ (1 ∷ (l ∷ (0 ∷ (padding (gap 4 (length old + gap 8 (length old) + 1 + 1 + 2)) ++ (bytes_of false w32 (length t) ++ (t ++ 0 ∷ [])))))))) ++ []) ≡ old ++ fields_bytes false (length old) (text_field code l (Some t))) (sym e) refl
      go l (inr e) = subst (λ (l : ℕ). old ++ ((padding (gap 8 (length old)) ++ (code ∷ (1 ∷ (l ∷ (0 ∷ (padding (gap 4 (length old + gap 8 (length old) + 1 + 1 + 2)) ++ (bytes_of false w32 (length t) ++ (t ++ 0 ∷ [])))))))) ++ []) ≡ old ++ fields_bytes false (length old) (text_field code l (Some t))) (sym e) refl

pub signature_done : (sig old a b c final : List ℕ) → 1 ≤ length sig → a ≡ old ++ padding (gap 8 (length old)) → b ≡ a ++ 8 ∷ [] → c ≡ b ++ (1 ∷ 103 ∷ 0 ∷ []) → final ≡ c ++ (length sig ∷ (sig ++ 0 ∷ [])) → final ≡ old ++ fields_bytes false (length old) (signature_field sig)
unfolding padding
signature_done [] old a b c final long a-is b-is c-is final-is = absurd (omega arith)
signature_done (l ∷ sig) old a b c final long a-is b-is c-is final-is =
    let at = length old + gap 8 (length old) + 1 + 1 + 2 in
    let none : gap 1 at ≡ 0 = omega arith in
    let x = length (l ∷ sig) ∷ (l ∷ sig ++ 0 ∷ []) in
    field_front 8 103 old a b c x final a-is b-is c-is final-is ∙ ap (λ (q : ℕ). old ++ ((padding (gap 8 (length old)) ++ (8 ∷ (1 ∷ (103 ∷ (0 ∷ (padding q ++ x)))))) ++ [])) (sym none)

pub text_put : (code letter : ℕ) (o : Option (List ℕ)) (t u old a b c d final : List ℕ) → o ≡ Some t → u ≡ t → (letter ≡ 111) ⊎ (letter ≡ 115) → a ≡ old ++ padding (gap 8 (length old)) → b ≡ a ++ code ∷ [] → c ≡ b ++ (1 ∷ letter ∷ 0 ∷ []) → d ≡ c ++ padding (gap 4 (length c)) → final ≡ d ++ (bytes_of false w32 (length u) ++ (u ++ 0 ∷ []))
    → final ≡ old ++ fields_bytes false (length old) (text_field code letter o)
text_put code letter o t u old a b c d final o-is u-is which a-is b-is c-is d-is final-is =
    text_done code letter t old a b c d final which a-is b-is c-is d-is (final-is ∙ ap (λ (x : List ℕ). d ++ (bytes_of false w32 (length x) ++ (x ++ 0 ∷ []))) u-is) ∙ ap (λ (x : Option (List ℕ)). old ++ fields_bytes false (length old) (text_field code letter x)) (sym o-is)

pub number_put : (o : Option ℕ) (n : ℕ) (old a b c d final : List ℕ) → o ≡ Some n → a ≡ old ++ padding (gap 8 (length old)) → b ≡ a ++ 5 ∷ [] → c ≡ b ++ (1 ∷ 117 ∷ 0 ∷ []) → d ≡ c ++ padding (gap 4 (length c)) → final ≡ d ++ bytes_of false w32 n → final ≡ old ++ fields_bytes false (length old) (number_field o)
number_put o n old a b c d final o-is a-is b-is c-is d-is final-is = number_done n old a b c d final a-is b-is c-is d-is final-is ∙ ap (λ (x : Option ℕ). old ++ fields_bytes false (length old) (number_field x)) (sym o-is)

pub start_put : (kind flags serial : ℕ) (old a b c final : List ℕ) → a ≡ old ++ (108 ∷ kind ∷ flags ∷ 1 ∷ []) → b ≡ a ++ bytes_of false w32 0 → c ≡ b ++ bytes_of false w32 serial → final ≡ c ++ bytes_of false w32 0
    → final ≡ old ++ (108 ∷ kind ∷ flags ∷ 1 ∷ (bytes_of false w32 0 ++ (bytes_of false w32 serial ++ bytes_of false w32 0)))
start_put kind flags serial old a b c final a-is b-is c-is final-is =
    let h = 108 ∷ kind ∷ flags ∷ 1 ∷ [] in
    let z = bytes_of false w32 0 in
    let r = bytes_of false w32 serial in
    final-is ∙ ap (λ (x : List ℕ). x ++ z) (c-is ∙ ap (λ (x : List ℕ). x ++ r) (b-is ∙ ap (λ (x : List ℕ). x ++ z) a-is)) ∙ append_assoc ((old ++ h) ++ z) r z ∙ append_assoc (old ++ h) z (r ++ z) ∙ append_assoc old h (z ++ (r ++ z))

-- fields behind each other
pub fields_then : (old mid final : List ℕ) (xs ys : List Field) → mid ≡ old ++ fields_bytes false (length old) xs → final ≡ mid ++ fields_bytes false (length mid) ys → final ≡ old ++ fields_bytes false (length old) (xs ++ ys)
fields_then old mid final xs ys mid-is final-is =
    let m = fields_bytes false (length old) xs in
    let place : length mid ≡ length old + length m = ap length mid-is ∙ length-append old m in
    final-is ∙ ap (λ (q : ℕ). mid ++ fields_bytes false q ys) place ∙ ap (λ (y : List ℕ). y ++ fields_bytes false (length old + length m) ys) mid-is ∙ append_assoc old m (fields_bytes false (length old + length m) ys) ∙ ap (λ (y : List ℕ). old ++ y) (sym (joined (length old) xs)) where
      joined : (at : ℕ) (xs : List Field) → fields_bytes false at (xs ++ ys) ≡ fields_bytes false at xs ++ fields_bytes false (at + length (fields_bytes false at xs)) ys
      joined at [] = let k : at + 0 ≡ at = omega arith in rw k refl
      joined at (f ∷ fs) =
          let one = field_bytes false at f in
          let others = fields_bytes false (at + length one) fs in
          let k : at + length one + length others ≡ at + length (one ++ others) = omega (arith, length-append one others) in
          ap (λ (y : List ℕ). one ++ y) (joined (at + length one) fs) ∙ ap (λ (q : ℕ). one ++ (others ++ fields_bytes false q ys)) k ∙ sym (append_assoc one others (fields_bytes false (at + length (one ++ others)) ys))

-- what is left of a bound behind the first fields
pub fields_short : (old : List ℕ) (xs ys : List Field) (limit : ℕ) → length old + length (fields_bytes false (length old) (xs ++ ys)) ≤ limit
    → (length old + length (fields_bytes false (length old) xs) ≤ limit) × ((mid : List ℕ) → mid ≡ old ++ fields_bytes false (length old) xs → length mid + length (fields_bytes false (length mid) ys) ≤ limit)
fields_short old xs ys limit short =
    let all : (mid : List ℕ) → mid ≡ old ++ fields_bytes false (length old) xs → length mid + length (fields_bytes false (length mid) ys) ≡ length old + length (fields_bytes false (length old) (xs ++ ys)) = λ mid e.
    (let h : mid ++ fields_bytes false (length mid) ys ≡ old ++ fields_bytes false (length old) (xs ++ ys) = fields_then old mid (mid ++ fields_bytes false (length mid) ys) xs ys e refl in
    sym (length-append mid (fields_bytes false (length mid) ys)) ∙ ap length h ∙ length-append old (fields_bytes false (length old) (xs ++ ys))) in
    let first = all (old ++ fields_bytes false (length old) xs) refl in
    (omega (arith, first, length-append old (fields_bytes false (length old) xs), short), λ mid e. omega (arith, all mid e, short))

-- ---- messages

-- the first 16 bytes, with 0 for the two lengths
abbrev pub start : Message → List ℕ
start m = 108 ∷ m.kind ∷ m.flags ∷ 1 ∷ (bytes_of false w32 0 ++ (bytes_of false w32 m.serial ++ bytes_of false w32 0))

start_length : (m : Message) → length (start m) ≡ 16
start_length m = omega (arith, length-append (bytes_of false w32 0) (bytes_of false w32 m.serial ++ bytes_of false w32 0), length-append (bytes_of false w32 m.serial) (bytes_of false w32 0), wide32.len false 0, wide32.len false m.serial)

abbrev pub fields_of : Message → List ℕ
fields_of m = fields_bytes false 16 m.fields

abbrev pub body_place : Message → ℕ
body_place m = 16 + length (fields_of m) + gap 8 (16 + length (fields_of m))

abbrev pub body_of : Message → List ℕ
body_of m = all_marshalled false (body_place m) m.body

pub message_length : (m : Message) → length (message_bytes false m) ≡ body_place m + length (body_of m)
message_length m =
    let F = fields_of m in
    let B = body_of m in
    let g = padding (gap 8 (16 + length F)) in
    let a = bytes_of false w32 (length B) in
    let b = bytes_of false w32 m.serial in
    let c = bytes_of false w32 (length F) in
    omega (arith, length-append a (b ++ (c ++ (F ++ (g ++ B)))), length-append b (c ++ (F ++ (g ++ B))), length-append c (F ++ (g ++ B)), length-append F (g ++ B), length-append g B, length-padding (gap 8 (16 + length F)), wide32.len false (length B), wide32.len false m.serial, wide32.len false (length F))

-- behind the fields, the padding and the body
pub after_fields : (m : Message) (s1 s2 : List ℕ) → s1 ≡ start m → s2 ≡ s1 ++ fields_bytes false (length s1) m.fields → (s2 ≡ start m ++ fields_of m) × (length s2 ≡ 16 + length (fields_of m))
after_fields m s1 s2 s1-is s2-is =
    let len : length s1 ≡ 16 = ap length s1-is ∙ start_length m in
    let e : s2 ≡ start m ++ fields_of m = s2-is ∙ ap (λ (q : ℕ). s1 ++ fields_bytes false q m.fields) len ∙ ap (λ (y : List ℕ). y ++ fields_of m) s1-is in
    (e, omega (arith, ap length e, length-append (start m) (fields_of m), start_length m))

pub after_padding : (m : Message) (s1 s2 s3 : List ℕ) → s1 ≡ start m → s2 ≡ s1 ++ fields_bytes false (length s1) m.fields → s3 ≡ s2 ++ padding (gap 8 (length s2)) → (s3 ≡ (start m ++ fields_of m) ++ padding (gap 8 (16 + length (fields_of m)))) × (length s3 ≡ body_place m)
after_padding m s1 s2 s3 s1-is s2-is s3-is =
    let f = after_fields m s1 s2 s1-is s2-is in
    let e : s3 ≡ (start m ++ fields_of m) ++ padding (gap 8 (16 + length (fields_of m))) = s3-is ∙ ap (λ (q : ℕ). s2 ++ padding (gap 8 q)) f.1 ∙ ap (λ (y : List ℕ). y ++ padding (gap 8 (16 + length (fields_of m)))) f.0 in
    (e, omega (arith, ap length s3-is, length-padded s2 (gap 8 (length s2)), ap (λ (q : ℕ). gap 8 q) f.1, f.1))

pub fields_fit : (m : Message) (s1 : List ℕ) → IsMessage false m → s1 ≡ start m → length s1 + length (fields_bytes false (length s1) m.fields) ≤ MAX_MESSAGE
fields_fit m s1 is s1-is =
    let len : length s1 ≡ 16 = ap length s1-is ∙ start_length m in
    let short = is.short in
    omega (arith, len, ap (λ (q : ℕ). length (fields_bytes false q m.fields)) len, message_length m, short)

pub body_fits : (m : Message) (s1 s2 s3 : List ℕ) → IsMessage false m → s1 ≡ start m → s2 ≡ s1 ++ fields_bytes false (length s1) m.fields → s3 ≡ s2 ++ padding (gap 8 (length s2)) → length (s3 ++ all_marshalled false (length s3) m.body) ≤ MAX_MESSAGE
body_fits m s1 s2 s3 is s1-is s2-is s3-is =
    let p = after_padding m s1 s2 s3 s1-is s2-is s3-is in
    let short = is.short in
    omega (arith, length-append s3 (all_marshalled false (length s3) m.body), p.1, ap (λ (q : ℕ). length (all_marshalled false q m.body)) p.1, message_length m, short)

pub body_forms : (vs : List Value) → Each (FitsAs false 64) (list_trees vs) → AllForm vs
body_forms vs each = each_forms (FitsAs false 64) (λ t f. (false, 64, f)) vs each

pub sizes_fit : (s3 s4 b : List ℕ) (size : ℕ) → s4 ≡ s3 ++ b → length (s3 ++ b) ≤ MAX_MESSAGE → size ≡ length s4 - length s3 → size < 2 ^ 32
sizes_fit s3 s4 b size s4-is short size-is = omega (arith, ap length s4-is, size-is, short)

filled : (m : Message) (t s4 s5 s6 : List ℕ) (nb nf : ℕ) → s4 ≡ start m ++ t → s5 ≡ take 4 s4 ++ (bytes_of false w32 nb ++ drop 8 s4) → s6 ≡ take 12 s5 ++ (bytes_of false w32 nf ++ drop 16 s5)
    → s6 ≡ 108 ∷ m.kind ∷ m.flags ∷ 1 ∷ (bytes_of false w32 nb ++ (bytes_of false w32 m.serial ++ (bytes_of false w32 nf ++ t)))
filled m t s4 s5 s6 nb nf s4-is s5-is s6-is =
    let h = 108 ∷ m.kind ∷ m.flags ∷ 1 ∷ [] in
    let z = bytes_of false w32 0 in
    let r = bytes_of false w32 m.serial in
    let b = bytes_of false w32 nb in
    let f = bytes_of false w32 nf in
    let e4 : s4 ≡ h ++ (z ++ (r ++ (z ++ t))) = s4-is ∙ ap (λ (y : List ℕ). h ++ y) (append_assoc z (r ++ z) t ∙ ap (λ (y : List ℕ). z ++ y) (append_assoc r z t)) in
    let front4 : take 4 s4 ≡ h = ap (λ (y : List ℕ). take 4 y) e4 ∙ take_at h (z ++ (r ++ (z ++ t))) 4 refl in
    let e4' : s4 ≡ (h ++ z) ++ (r ++ (z ++ t)) = e4 ∙ sym (append_assoc h z (r ++ (z ++ t))) in
    let l8 : length (h ++ z) ≡ 8 = omega (arith, length-append h z, wide32.len false 0) in
    let behind8 : drop 8 s4 ≡ r ++ (z ++ t) = ap (λ (y : List ℕ). drop 8 y) e4' ∙ drop_at (h ++ z) (r ++ (z ++ t)) 8 l8 in
    let e5 : s5 ≡ ((h ++ b) ++ r) ++ (z ++ t) = s5-is ∙ ap (λ (y : List ℕ). y ++ (b ++ drop 8 s4)) front4 ∙ ap (λ (y : List ℕ). h ++ (b ++ y)) behind8 ∙ sym (append_assoc h b (r ++ (z ++ t))) ∙ sym (append_assoc (h ++ b) r (z ++ t)) in
    let l12 : length ((h ++ b) ++ r) ≡ 12 = omega (arith, length-append (h ++ b) r, length-append h b, wide32.len false nb, wide32.len false m.serial) in
    let front12 : take 12 s5 ≡ (h ++ b) ++ r = ap (λ (y : List ℕ). take 12 y) e5 ∙ take_at ((h ++ b) ++ r) (z ++ t) 12 l12 in
    let e5' : s5 ≡ (((h ++ b) ++ r) ++ z) ++ t = e5 ∙ sym (append_assoc ((h ++ b) ++ r) z t) in
    let l16 : length (((h ++ b) ++ r) ++ z) ≡ 16 = omega (arith, length-append ((h ++ b) ++ r) z, l12, wide32.len false 0) in
    let behind16 : drop 16 s5 ≡ t = ap (λ (y : List ℕ). drop 16 y) e5' ∙ drop_at (((h ++ b) ++ r) ++ z) t 16 l16 in
    s6-is ∙ ap (λ (y : List ℕ). y ++ (f ++ drop 16 s5)) front12 ∙ ap (λ (y : List ℕ). ((h ++ b) ++ r) ++ (f ++ y)) behind16 ∙ append_assoc (h ++ b) r (f ++ t) ∙ append_assoc h b (r ++ (f ++ t))

pub message_done : (m : Message) (s1 s2 s3 s4 s5 s6 : List ℕ) (fields size : ℕ) → s1 ≡ start m → s2 ≡ s1 ++ fields_bytes false (length s1) m.fields → s3 ≡ s2 ++ padding (gap 8 (length s2)) → s4 ≡ s3 ++ all_marshalled false (length s3) m.body
    → fields ≡ length s2 - 16 → size ≡ length s4 - length s3 → s5 ≡ take 4 s4 ++ (bytes_of false w32 size ++ drop 8 s4) → s6 ≡ take 12 s5 ++ (bytes_of false w32 fields ++ drop 16 s5) → s6 ≡ message_bytes false m
message_done m s1 s2 s3 s4 s5 s6 fields size s1-is s2-is s3-is s4-is fields-is size-is s5-is s6-is =
    let f = after_fields m s1 s2 s1-is s2-is in
    let p = after_padding m s1 s2 s3 s1-is s2-is s3-is in
    let F = fields_of m in
    let B = body_of m in
    let g = padding (gap 8 (16 + length F)) in
    let e4 : s4 ≡ s3 ++ B = s4-is ∙ ap (λ (q : ℕ). s3 ++ all_marshalled false q m.body) p.1 in
    let e4' : s4 ≡ start m ++ (F ++ (g ++ B)) = e4 ∙ ap (λ (y : List ℕ). y ++ B) p.0 ∙ append_assoc (start m ++ F) g B ∙ append_assoc (start m) F (g ++ B) in
    let n_fields : fields ≡ length F = omega (arith, fields-is, f.1) in
    let n_size : size ≡ length B = omega (arith, size-is, ap length e4, length-append s3 B) in
    filled m (F ++ (g ++ B)) s4 s5 s6 size fields e4' s5-is s6-is ∙ ap (λ (q : ℕ). 108 ∷ m.kind ∷ m.flags ∷ 1 ∷ (bytes_of false w32 q ++ (bytes_of false w32 m.serial ++ (bytes_of false w32 fields ++ (F ++ (g ++ B)))))) n_size
    ∙ ap (λ (q : ℕ). 108 ∷ m.kind ∷ m.flags ∷ 1 ∷ (bytes_of false w32 (length B) ++ (bytes_of false w32 m.serial ++ (bytes_of false w32 q ++ (F ++ (g ++ B)))))) n_fields

pub written_form : (m : Message) (bytes : List ℕ) → IsMessage false m → bytes ≡ message_bytes false m → WireForm bytes m
written_form m bytes is same = record { big = false; is = is; bytes_are = same }

pub written_again : (m : Message) (bytes more : List ℕ) → IsMessage false m → bytes ≡ message_bytes false m → next_of (bytes ++ more) ≡ Whole (shown_of m) (length bytes)
written_again m bytes more is same = ap (λ (y : List ℕ). next_of (y ++ more)) same ∙ read_again false m more is ∙ ap (λ (n : ℕ). Whole (shown_of m) n) (ap length (sym same))

-- SIGNATURE is short
are_behind : (h : Header) (xs ys : List Field) → AreFields h (xs ++ ys) → (k : Header) × AreFields k ys
are_behind h [] ys are = (h, are)
are_behind h (f ∷ fs) ys are = are_behind (put h f) fs ys are.1

signature_known : (h : Header) (sig : List ℕ) → AreFields h (signature_field sig) → length sig < 256
signature_known h [] are = omega arith
signature_known h (c ∷ sig) are = go are.0.value where
  go : ((8 < 10) × IsKnown 8 (trees.Text 103 (c ∷ sig))) ⊎ ((10 ≤ 8) × IsUnknown (trees.Text 103 (c ∷ sig))) → length (c ∷ sig) < 256
  go (inl known) = signature_short (c ∷ sig) known.1.1
  go (inr unknown) = absurd (omega (arith, unknown.0))

pub letters_fit : (out : WireOut) (serial : ℕ) (sig : List ℕ) → IsMessage false (message_out out serial) → sig ≡ types_of (list_trees out.body.items.items) → length sig < 256
letters_fit out serial sig is same =
    let a = are_behind no_fields (text_field 1 111 out.fields.path) _ is.fields in
    let b = are_behind a.0 (text_field 2 115 out.fields.interface) _ a.1 in
    let c = are_behind b.0 (text_field 3 115 out.fields.member) _ b.1 in
    let d = are_behind c.0 (text_field 4 115 out.fields.error_name) _ c.1 in
    let e = are_behind d.0 (number_field out.fields.reply_serial) _ d.1 in
    let h = signature_known e.0 (types_of (list_trees out.body.items.items)) e.1 in
    omega (arith, ap length same, h)

-- an empty return, with its values left open
abbrev pub return_with : List Value → Message
return_with vs = record { kind = 2; flags = 1; serial = 1; fields = number_field (Some 7) ++ signature_field (types_of (list_trees vs)); body = list_trees vs }

pub empty_return : IsMessage false (return_with [])
unfolding padding
empty_return = record {
  kind = (lit< tt, lit< tt);
  flags = lit< tt;
  serial = (lit< tt, lit< tt);
  fields = (record { low = lit< tt; high = lit< tt; once = refl; value = inl (lit< tt, (refl, refl, lit< tt, λ _. lit< tt)) }, tt);
  needs = refl;
  signature = refl;
  body = tt;
  short = lit≤ tt;
}

-- the body of an answer: yes, no challenge, and one detail
abbrev pub answer_trees : List ℕ → Tree → Trees
answer_trees item detail = trees.more (trees.Struct (trees.more (trees.Number 98 1) (trees.more (trees.Number 98 0) (trees.more (trees.Array item (trees.more detail trees.none)) trees.none)))) trees.none

pub answer_made : (item sig : List ℕ) (entry : Value) (detail : Tree) (details members : ValueList) (d m0 m1 m2 b0 b : List Value) → d ≡ [] → details.items.items ≡ d ++ entry ∷ [] → tree entry ≡ detail → sig ≡ item
    → m0 ≡ [] → m1 ≡ m0 ++ Truth true ∷ [] → m2 ≡ m1 ++ Truth false ∷ [] → members.items.items ≡ m2 ++ Array sig details ∷ [] → b0 ≡ [] → b ≡ b0 ++ Struct members ∷ [] → list_trees b ≡ answer_trees item detail
answer_made item sig entry detail details members d m0 m1 m2 b0 b d-is details-is entry-is sig-is m0-is m1-is m2-is members-is b0-is b-is =
    let held : details.items.items ≡ entry ∷ [] = details-is ∙ ap (λ (x : List Value). x ++ entry ∷ []) d-is in
    let array : tree (Array sig details) ≡ trees.Array item (trees.more detail trees.none) = tree_array sig details ∙ ap (λ (vs : List Value). trees.Array sig (list_trees vs)) held ∙ ap (λ (t : Tree). trees.Array sig (trees.more t trees.none)) entry-is ∙ ap (λ (s : List ℕ). trees.Array s (trees.more detail trees.none)) sig-is in
    let two : m2 ≡ Truth true ∷ Truth false ∷ [] = m2-is ∙ ap (λ (x : List Value). x ++ Truth false ∷ []) (m1-is ∙ ap (λ (x : List Value). x ++ Truth true ∷ []) m0-is) in
    let three : members.items.items ≡ Truth true ∷ Truth false ∷ Array sig details ∷ [] = members-is ∙ ap (λ (x : List Value). x ++ Array sig details ∷ []) two in
    let struct : tree (Struct members) ≡ trees.Struct (trees.more (trees.Number 98 1) (trees.more (trees.Number 98 0) (trees.more (trees.Array item (trees.more detail trees.none)) trees.none))) = tree_struct members ∙ ap (λ (vs : List Value). trees.Struct (list_trees vs)) three
    ∙ ap (λ (t : Tree). trees.Struct (trees.more (trees.Number 98 1) (trees.more (trees.Number 98 0) (trees.more t trees.none)))) array in
    ap list_trees (b-is ∙ ap (λ (x : List Value). x ++ Struct members ∷ []) b0-is) ∙ ap (λ (t : Tree). trees.more t trees.none) struct

-- a return with this body
abbrev pub answer_with : Trees → Message
answer_with ts = record { kind = 2; flags = 1; serial = 1; fields = number_field (Some 1) ++ signature_field (types_of ts); body = ts }

-- polkit.decided-by
abbrev pub decided_by : List ℕ
decided_by = 112 ∷ 111 ∷ 108 ∷ 107 ∷ 105 ∷ 116 ∷ 46 ∷ 100 ∷ 101 ∷ 99 ∷ 105 ∷ 100 ∷ 101 ∷ 100 ∷ 45 ∷ 98 ∷ 121 ∷ []

decided_by_text : is_text decided_by ≡ true
unfolding is_utf8 chars encode_utf8
decided_by_text = refl

-- default:any
abbrev pub default_any : List ℕ
default_any = 100 ∷ 101 ∷ 102 ∷ 97 ∷ 117 ∷ 108 ∷ 116 ∷ 58 ∷ 97 ∷ 110 ∷ 121 ∷ []

default_any_text : is_text default_any ≡ true
unfolding is_utf8 chars encode_utf8
default_any_text = refl

abbrev pub worked_detail : Tree
worked_detail = trees.Entry (trees.Text 115 decided_by) (trees.Text 115 default_any)

pub answer_is : IsMessage false (answer_with (answer_trees (123 ∷ 115 ∷ 115 ∷ 125 ∷ []) worked_detail))
unfolding padding type_end members_end are_types FitsAs
answer_is = record {
  kind = (lit< tt, lit< tt);
  flags = lit< tt;
  serial = (lit< tt, lit< tt);
  fields = (record { low = lit< tt; high = lit< tt; once = refl; value = inl (lit< tt, (refl, refl, lit< tt, λ _. lit< tt)) }, (record { low = lit< tt; high = lit< tt; once = refl; value = inl (lit< tt, (refl, refl)) }, tt));
  needs = refl;
  signature = refl;
  body = ((tt, (lit< tt, (lit< tt, ((λ types. refl, ((refl, (tt, decided_by_text, default_any_text)), tt)), tt)))), tt);
  short = lit≤ tt;
}
