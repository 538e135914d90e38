-- A header field that was marshalled is read again, and what is read was marshalled so.
use Rattle.std.proofs.Common.{◌≡◌, ℕ, zero, suc, ◌+◌, ◌<◌, ◌≤◌, ◌^◌, List, [], ◌∷◌, ◌++◌, length, Bool, true, false, cond, eqb, ltb, Ok, refl, sym, ap, subst, ◌∙◌, arith, append_assoc, inl, inr, ◌⊎◌}
use Rattle.std.specs.Prelude.{◌==◌, ◌||◌, ◌&&◌}
use Rattle.std.specs.Int.{w32}
use Rattle.std.proofs.lemmas.Bool.{le-ltb, lt-ltb, eqb-true, eq-eqb}
use Rattle.std.proofs.lemmas.List.{length-append, append-nil}
use Rattle.dbus_values.specs.declared.codes.TheConstants.{MAX_MESSAGE}
use Rattle.dbus_values.specs.declared.class.Class.{Class}
use Rattle.dbus_values.specs.declared.class.Class.TheVariants as class
use Rattle.dbus_values.specs.Reading.{Spot, spot_at}
use Rattle.dbus_values.specs.Types.{class_of, align_of}
use Rattle.dbus_values.specs.Signatures.{are_types, type_end, is_signature}
use Rattle.dbus_values.specs.Basics.{gap, byte_at, signature_at}
use Rattle.dbus_values.specs.Walk.{values_at, walked}
use Rattle.dbus_values.specs.Header.{Header, put_text, put_number, type_code, number_field, text_field, known_field, passed_field, field_at, fields_at}
use Rattle.dbus_values.specs.Trees.{Tree, bytes_of, padding, text_bytes, marshalled, all_pieces, IsString, Number, Text, Array, Struct, Entry, Variant, none, more}
use Rattle.dbus_values.specs.Form.{Field, field_bytes, fields_bytes, IsKnown, IsUnknown, IsField, AreFields, put_value, put, header_from}
use Rattle.dbus_values.proofs.Loops.{not_zero}
use Rattle.dbus_values.proofs.Numbers.{length-padding, zeros_again, number_again, sig_again, wide32}
use Rattle.dbus_values.proofs.Leaves.{string_again}
use Rattle.dbus_values.proofs.Counting.{values_again}

-- the signature of a known field's value
code_signature : (a b c : Bool) → is_signature (cond a 111 (cond b 117 (cond c 103 115)) ∷ []) ≡ true
unfolding are_types type_end
code_signature true b c = refl
code_signature false true c = refl
code_signature false false true = refl
code_signature false false false = refl

pub type_code_signature : (c : ℕ) → is_signature (type_code c ∷ []) ≡ true
type_code_signature c = code_signature (eqb c 1) ((c == 5) || (c == 9)) (eqb c 8)

same_test : (n : ℕ) → eqb n n ≡ true
same_test n = eq-eqb n n refl

-- ---- again

number_field_again : (big : Bool) (start c n at : ℕ) (h : Header) (rest : List ℕ) → n < 2 ^ 32 → (c ≡ 5 → 0 < n)
    → number_field big start c h at ((padding (gap 4 at) ++ bytes_of big w32 n) ++ rest) ≡ Ok (put_number h c n, spot_at (at + length (padding (gap 4 at) ++ bytes_of big w32 n)) rest)
unfolding number_field
number_field_again big start c n at h rest lt some =
    let g = gap 4 at in
    let r : (padding g ++ bytes_of big w32 n) ++ rest ≡ padding g ++ (bytes_of big w32 n ++ rest) = append_assoc (padding g) (bytes_of big w32 n) rest in
    let size : at + length (padding g ++ bytes_of big w32 n) ≡ at + g + 4 = omega (arith, length-append (padding g) (bytes_of big w32 n), length-padding g, wide32.len big n) in
    let test : ((c == 5) && (n == 0)) ≡ false = go (eqb c 5) refl in
    rw (r, zeros_again g at (bytes_of big w32 n ++ rest), number_again big w32 (2 ^ 32) wide32 n (at + g) rest lt, test, size) refl where
      go : (b : Bool) → eqb c 5 ≡ b → (b && eqb n 0) ≡ false
      go true is = let pos = some (eqb-true c 5 is) in not_zero n (omega arith)
      go false is = refl

text_short : (k : Class) (big : Bool) (t : List ℕ) → length t ≤ length (text_bytes big k t)
text_short class.Signature big t = omega (arith, length-append t (0 ∷ []))
text_short _ big t = omega (arith, length-append (bytes_of big w32 (length t)) (t ++ 0 ∷ []), length-append t (0 ∷ []))

text_field_again : (big : Bool) (c at : ℕ) (t : List ℕ) (h : Header) (rest : List ℕ) → IsString (class_of (type_code c)) t → length (marshalled big at (Text (type_code c) t)) < 2 ^ 32
    → text_field big c h at (marshalled big at (Text (type_code c) t) ++ rest) ≡ Ok (put_text h c t, spot_at (at + length (marshalled big at (Text (type_code c) t))) rest)
unfolding text_field
text_field_again big c at t h rest is lt =
    let k = class_of (type_code c) in
    let g = gap (align_of k) at in
    let x = text_bytes big k t in
    let r : (padding g ++ x) ++ rest ≡ padding g ++ (x ++ rest) = append_assoc (padding g) x rest in
    let size : at + length (padding g ++ x) ≡ at + g + length x = omega (arith, length-append (padding g) x, length-padding g) in
    let short : length t < 2 ^ 32 = omega (arith, text_short k big t, length-append (padding g) x) in
    rw (r, zeros_again g at (x ++ rest), string_again k big t (at + g) rest is short, size) refl

known_text : (big : Bool) (start c at : ℕ) (h : Header) (bytes : List ℕ) (x : Header × Spot) → eqb (type_code c) 117 ≡ false → text_field big c h (at + 1 + 1 + 1) bytes ≡ Ok x → known_field big start c h at (1 ∷ (type_code c ∷ (0 ∷ bytes))) ≡ Ok x
unfolding known_field
known_text big start c at h bytes x code read =
    let sig : signature_at at (1 ∷ (type_code c ∷ (0 ∷ bytes))) ≡ Ok (type_code c ∷ [], spot_at (at + 1 + 1 + 1) bytes) = sig_again (type_code c ∷ []) bytes at (type_code_signature c) in
    rw (sig, same_test (type_code c), code) read

-- a known field behind its code
known_again : (big : Bool) (start c at : ℕ) (v : Tree) (h : Header) (rest : List ℕ) → IsKnown c v → length (marshalled big at (Variant v)) < 2 ^ 32
    → known_field big start c h at (marshalled big at (Variant v) ++ rest) ≡ Ok (put_value h c v, spot_at (at + length (marshalled big at (Variant v))) rest)
unfolding known_field
known_again big start c at (Number l n) h rest is lt =
    let here = at + 1 + 2 in
    let letter : l ≡ type_code c = is.0 ∙ sym is.1 in
    let T = type_code c ∷ [] in
    let here2 = at + 1 + 1 + 1 in
    let value = padding (gap 4 (at + 1 + 2)) ++ bytes_of big w32 n in
    let code : eqb (type_code c) 117 ≡ true = eq-eqb (type_code c) 117 is.1 in
    let place : at + 1 + 2 ≡ at + 1 + 1 + 1 = omega arith in
    let form : marshalled big at (Variant (Number 117 n)) ≡ 1 ∷ (117 ∷ (0 ∷ value)) = refl in
    let read : number_field big start c h (at + 1 + 1 + 1) (value ++ rest) ≡ Ok (put_number h c n, spot_at (at + 1 + 2 + length value) rest) = subst (λ (q : ℕ). number_field big start c h q (value ++ rest) ≡ Ok (put_number h c n, spot_at (at + 1 + 2 + length value) rest)) place (number_field_again big start c n (at + 1 + 2) h rest is.2 is.3) in
    let size : at + 1 + 2 + length value ≡ at + length (1 ∷ (117 ∷ (0 ∷ value))) = omega arith in
    let sig : signature_at at (1 ∷ (type_code c ∷ (0 ∷ (value ++ rest)))) ≡ Ok (type_code c ∷ [], spot_at (at + 1 + 1 + 1) (value ++ rest)) = sig_again (type_code c ∷ []) (value ++ rest) at (type_code_signature c) in
    let whole : known_field big start c h at (1 ∷ (type_code c ∷ (0 ∷ (value ++ rest)))) ≡ Ok (put_number h c n, spot_at (at + length (1 ∷ (117 ∷ (0 ∷ value)))) rest) = rw (sig, same_test (type_code c), code, read, size) refl in
    rw is.0 (subst (λ (q : ℕ). known_field big start c h at (1 ∷ (q ∷ (0 ∷ (value ++ rest)))) ≡ Ok (put_number h c n, spot_at (at + length (1 ∷ (117 ∷ (0 ∷ value)))) rest)) is.1 whole)
known_again big start c at (Text l t) h rest is lt =
    let value = marshalled big (at + 1 + 2) (Text (type_code c) t) in
    let string : IsString (class_of (type_code c)) t = subst (λ (q : ℕ). IsString (class_of q) t) is.0 is.1 in
    let code : eqb (type_code c) 117 ≡ false = other (eqb (type_code c) 117) refl string in
    let place : at + 1 + 2 ≡ at + 1 + 1 + 1 = omega arith in
    let lt' : length (marshalled big at (Variant (Text (type_code c) t))) < 2 ^ 32 = subst (λ (q : ℕ). length (marshalled big at (Variant (Text q t))) < 2 ^ 32) is.0 lt in
    let read : text_field big c h (at + 1 + 1 + 1) (value ++ rest) ≡ Ok (put_text h c t, spot_at (at + 1 + 2 + length value) rest) = subst (λ (q : ℕ). text_field big c h q (value ++ rest) ≡ Ok (put_text h c t, spot_at (at + 1 + 2 + length value) rest)) place (text_field_again big c (at + 1 + 2) t h rest string (omega (arith, lt'))) in
    let size : at + 1 + 2 + length value ≡ at + length (1 ∷ (type_code c ∷ (0 ∷ value))) = omega arith in
    let read' : text_field big c h (at + 1 + 1 + 1) (value ++ rest) ≡ Ok (put_text h c t, spot_at (at + length (1 ∷ (type_code c ∷ (0 ∷ value)))) rest) = read ∙ ap (λ (q : ℕ). Ok (put_text h c t, spot_at q rest)) size in
    let whole = known_text big start c at h (value ++ rest) (put_text h c t, spot_at (at + length (1 ∷ (type_code c ∷ (0 ∷ value)))) rest) code read' in
    subst (λ (q : ℕ). known_field big start c h at (marshalled big at (Variant (Text q t)) ++ rest) ≡ Ok (put_text h c t, spot_at (at + length (marshalled big at (Variant (Text q t)))) rest)) (sym is.0) whole where
      other : (b : Bool) → eqb (type_code c) 117 ≡ b → IsString (class_of (type_code c)) t → b ≡ false
      other true e string = absurd (subst (λ (q : ℕ). IsString (class_of q) t) (eqb-true (type_code c) 117 e) string)
      other false e string = refl
known_again big start c at (Array item ts) h rest is lt = absurd is
known_again big start c at (Struct ts) h rest is lt = absurd is
known_again big start c at (Entry k v) h rest is lt = absurd is
known_again big start c at (Variant t) h rest is lt = absurd is

-- an unknown field behind its code
unknown_again : (big : Bool) (at : ℕ) (v : Tree) (rest : List ℕ) → IsUnknown v → length (marshalled big at (Variant v)) ≤ MAX_MESSAGE
    → passed_field big at (marshalled big at (Variant v) ++ rest) ≡ Ok (spot_at (at + length (marshalled big at (Variant v))) rest)
unfolding passed_field
unknown_again big at v rest is le =
    let m = marshalled big at (Variant v) in
    let n = length (all_pieces (more (Variant v) none)) in
    let all = values_again 62 big (more (Variant v) none) at rest (omega arith) (is, tt) (omega (arith, length-append m [])) in
    let all1 : values_at 62 big (118 ∷ []) at (m ++ rest) ≡ Ok (walked n (spot_at (at + length m) rest)) = subst (λ (x : List ℕ). values_at 62 big (118 ∷ []) at (x ++ rest) ≡ Ok (walked n (spot_at (at + length x) rest))) (append-nil m) all in
    rw all1 refl

pub field_again : (big : Bool) (h : Header) (at : ℕ) (f : Field) (rest : List ℕ) → IsField h f → length (field_bytes big at f) ≤ MAX_MESSAGE → field_at big h at (field_bytes big at f ++ rest) ≡ Ok (put h f, spot_at (at + length (field_bytes big at f)) rest)
unfolding field_at byte_at
field_again big h at f rest is le = go is.value where
  g : ℕ
  g = gap 8 at

  here : ℕ
  here = at + gap 8 at + 1

  v : List ℕ
  v = marshalled big (at + gap 8 at + 1) (Variant f.value)

  split : (padding (gap 8 at) ++ (f.code ∷ marshalled big (at + gap 8 at + 1) (Variant f.value))) ++ rest ≡ padding (gap 8 at) ++ (f.code ∷ (marshalled big (at + gap 8 at + 1) (Variant f.value) ++ rest))
  split = append_assoc (padding (gap 8 at)) (f.code ∷ marshalled big (at + gap 8 at + 1) (Variant f.value)) rest

  size : at + length (padding (gap 8 at) ++ (f.code ∷ marshalled big (at + gap 8 at + 1) (Variant f.value))) ≡ at + gap 8 at + 1 + length (marshalled big (at + gap 8 at + 1) (Variant f.value))
  size = omega (arith, length-append (padding (gap 8 at)) (f.code ∷ marshalled big (at + gap 8 at + 1) (Variant f.value)), length-padding (gap 8 at))

  first : eqb f.code 0 ≡ false
  first = let low = is.low in not_zero f.code (omega arith)

  go : ((f.code < 10) × IsKnown f.code f.value) ⊎ ((10 ≤ f.code) × IsUnknown f.value) → field_at big h at (field_bytes big at f ++ rest) ≡ Ok (put h f, spot_at (at + length (field_bytes big at f)) rest)
  go (inl known) =
      let low : ltb f.code 10 ≡ true = lt-ltb f.code 10 known.0 in
      let read = known_again big (at + gap 8 at) f.code (at + gap 8 at + 1) f.value h rest known.1 (omega (arith, size)) in
      rw (split, zeros_again (gap 8 at) at (f.code ∷ (marshalled big (at + gap 8 at + 1) (Variant f.value) ++ rest)), first, is.once, low, read, size) refl
  go (inr unknown) =
      let high : ltb f.code 10 ≡ false = le-ltb f.code 10 unknown.0 in
      let read = unknown_again big (at + gap 8 at + 1) f.value rest unknown.1 (omega (arith, size)) in
      rw (split, zeros_again (gap 8 at) at (f.code ∷ (marshalled big (at + gap 8 at + 1) (Variant f.value) ++ rest)), first, is.once, high, read, size) refl

pub fields_again : (n : ℕ) (big : Bool) (h : Header) (at : ℕ) (fs : List Field) → AreFields h fs → length (fields_bytes big at fs) ≤ n → length (fields_bytes big at fs) ≤ MAX_MESSAGE → fields_at n big h at (fields_bytes big at fs) ≡ Ok (header_from h fs)
unfolding fields_at
fields_again zero big h at [] are le short = refl
fields_again (suc n) big h at [] are le short = refl
fields_again zero big h at (f ∷ fs) are le short = absurd (omega (arith, length-append (field_bytes big at f) (fields_bytes big (at + length (field_bytes big at f)) fs), length-append (padding (gap 8 at)) (f.code ∷ marshalled big (at + gap 8 at + 1) (Variant f.value))))
fields_again (suc n) big h at (f ∷ fs) are le short =
    let one = field_bytes big at f in
    let others = fields_bytes big (at + length one) fs in
    let l = length-append one others in
    let k = length-append (padding (gap 8 at)) (f.code ∷ marshalled big (at + gap 8 at + 1) (Variant f.value)) in
    let long : eqb (length (one ++ others)) 0 ≡ false = not_zero (length (one ++ others)) (omega (arith, l, k)) in
    let read = field_again big h at f others are.0 (omega (arith, l)) in
    let rest = fields_again n big (put h f) (at + length one) fs are.1 (omega (arith, l, k)) (omega (arith, l)) in
    rw (long, read) rest
