-- Header fields that are read are the marshalled form of fields that a header may have.
use Rattle.std.proofs.Common.{◌≡◌, ℕ, zero, suc, ◌+◌, ◌<◌, ◌≤◌, ◌^◌, List, [], ◌∷◌, ◌++◌, length, get_or, drop, Bool, true, false, cond, eqb, ltb, not, Result, Ok, refl, sym, ap, subst, ◌∙◌, arith, append_assoc, inl, inr}
use Rattle.std.specs.Prelude.{◌==◌, ◌||◌, ◌&&◌}
use Rattle.std.specs.Int.{w32}
use Rattle.std.proofs.lemmas.Bool.{ltb-false, ltb-true, eqb-true, eqb-false, eq-eqb}
use Rattle.std.proofs.lemmas.List.{length-append, append-nil}
use Rattle.dbus_values.specs.declared.fault.Fault.{Fault}
use Rattle.dbus_values.specs.declared.fault.FaultKind.TheVariants as fault
use Rattle.dbus_values.specs.Reading.{◌>>=◌, bad, Spot, spot_at}
use Rattle.dbus_values.specs.Types.{class_of, align_of}
use Rattle.dbus_values.specs.Basics.{gap, pad, byte_at, number_at, string_at, signature_at}
use Rattle.dbus_values.specs.Walk.{values_at, Walked, most_parts}
use Rattle.dbus_values.specs.Header.{Header, has, put_text, put_number, type_code, number_field, text_field, known_field, passed_field, field_at, fields_at}
use Rattle.dbus_values.specs.Trees.{Tree, Trees, type_of, types_of, bytes_of, padding, text_bytes, marshalled, all_marshalled, IsNumber, IsString, FitsAs, Each, Number, Text, Array, Struct, Entry, Variant, none, more}
use Rattle.dbus_values.specs.Form.{Field, field_bytes, fields_bytes, IsKnown, IsUnknown, IsField, AreFields, put_value, put, header_from}
use Rattle.dbus_values.proofs.Numbers.{IsBytes, IsBytes-rest, bind_ok, guard_ok, held_ok, ok_is, Takes, takes_then, zeros_takes, number_takes, sig_takes, byte_takes, length-padding, wide32}
use Rattle.dbus_values.proofs.Leaves.{string_takes}
use Rattle.dbus_values.proofs.Finding.{row_found}

-- the value of a field behind its code
record ValueRead (P : Tree → Type 0) (big : Bool) (at : ℕ) (bytes : List ℕ) (to : Spot) : Type 0 where
  tree : Tree
  is : P tree
  taken : Takes at bytes (marshalled big at (Variant tree)) to

one_letter : (s : List ℕ) (c : ℕ) → (not (eqb (length s) 1) || not (eqb (get_or s 0 0) c)) ≡ false → s ≡ c ∷ []
one_letter [] c e = absurd cc
one_letter (x ∷ []) c e = go (eqb x c) refl e where
  go : (b : Bool) → eqb x c ≡ b → not b ≡ false → x ∷ [] ≡ c ∷ []
  go true is h = ap (λ (y : ℕ). y ∷ []) (eqb-true x c is)
  go false is h = absurd cc
one_letter (x ∷ y ∷ s) c e = let k : eqb (length (x ∷ y ∷ s)) 1 ≡ false = other (length s) in let h : true ≡ false = rw k at e in absurd cc where
  other : (n : ℕ) → eqb (suc (suc n)) 1 ≡ false
  other n = go (eqb (suc (suc n)) 1) refl where
    go : (b : Bool) → eqb (suc (suc n)) 1 ≡ b → b ≡ false
    go true is = let k : suc (suc n) ≡ 1 = eqb-true _ _ is in absurd (omega arith)
    go false is = refl

number_found : (big : Bool) (start c at : ℕ) (h : Header) (bytes : List ℕ) (x : Header × Spot) → IsBytes bytes → number_field big start c h at bytes ≡ Ok x
    → (n : ℕ) × (x.0 ≡ put_number h c n) × (n < 2 ^ 32) × (c ≡ 5 → 0 < n) × Takes at bytes (marshalled big at (Number 117 n)) x.1
unfolding number_field
number_found big start c at h bytes x fits e =
    let b0 = bind_ok (pad 4 at bytes) (λ p. number_at big w32 p.at p.rest >>= λ n. cond ((c == 5) && (n.0 == 0)) (bad fault.Fields start) (Ok (put_number h c n.0, n.1))) x e in
    let z = zeros_takes (gap 4 at) at bytes b0.0 b0.1 in
    let fits1 = IsBytes-rest (padding (gap 4 at)) b0.0.rest (subst IsBytes z.0 fits) in
    let b1 = bind_ok (number_at big w32 b0.0.at b0.0.rest) (λ n. cond ((c == 5) && (n.0 == 0)) (bad fault.Fields start) (Ok (put_number h c n.0, n.1))) x b0.2 in
    let n = b1.0.0 in
    let t = number_takes big w32 (2 ^ 32) wide32 b0.0.at b0.0.rest b1.0 fits1 b1.1 in
    let g = guard_ok ((c == 5) && (n == 0)) (record { kind = fault.Fields; at = start }) (Ok (put_number h c n, b1.0.1)) x b1.2 in
    let same = ok_is {E = Fault} (put_number h c n, b1.0.1) x g.1 in
    let first : Takes at bytes (padding (gap 4 at)) b0.0 = record { split = z.0; place = omega (arith, z.1, length-padding (gap 4 at)) } in
    let both = takes_then at bytes (padding (gap 4 at)) b0.0 (bytes_of big w32 n) b1.0.1 first t.0 in
    (n, sym (ap (λ (y : Header × Spot). y.0) same), t.1, (λ is. positive is (eqb n 0) refl g.0), subst (λ (q : Spot). Takes at bytes (marshalled big at (Number 117 n)) q) (ap (λ (y : Header × Spot). y.1) same) both) where
      positive : {n : ℕ} → c ≡ 5 → (b : Bool) → eqb n 0 ≡ b → ((c == 5) && eqb n 0) ≡ false → 0 < n
      positive {n} is true e h = let k : (c == 5) ≡ true = eq-eqb c 5 is in let h2 : true ≡ false = rw (k, e) at h in absurd cc
      positive {n} is false e h = let ne = eqb-false n 0 e in omega arith

text_found : (big : Bool) (c at : ℕ) (h : Header) (bytes : List ℕ) (x : Header × Spot) → IsBytes bytes → text_field big c h at bytes ≡ Ok x
    → (t : List ℕ) × (x.0 ≡ put_text h c t) × IsString (class_of (type_code c)) t × Takes at bytes (marshalled big at (Text (type_code c) t)) x.1
unfolding text_field
text_found big c at h bytes x fits e =
    let k = class_of (type_code c) in
    let b0 = bind_ok (pad (align_of k) at bytes) (λ p. string_at k big p.at p.rest >>= λ t. Ok (put_text h c t.0, t.1)) x e in
    let z = zeros_takes (gap (align_of k) at) at bytes b0.0 b0.1 in
    let fits1 = IsBytes-rest (padding (gap (align_of k) at)) b0.0.rest (subst IsBytes z.0 fits) in
    let b1 = bind_ok (string_at k big b0.0.at b0.0.rest) (λ t. Ok (put_text h c t.0, t.1)) x b0.2 in
    let t = string_takes k big b0.0.at b0.0.rest b1.0 fits1 b1.1 in
    let same = ok_is {E = Fault} (put_text h c b1.0.0, b1.0.1) x b1.2 in
    let first : Takes at bytes (padding (gap (align_of k) at)) b0.0 = record { split = z.0; place = omega (arith, z.1, length-padding (gap (align_of k) at)) } in
    let both = takes_then at bytes (padding (gap (align_of k) at)) b0.0 (text_bytes big k b1.0.0) b1.0.1 first t.0 in
    (b1.0.0, sym (ap (λ (y : Header × Spot). y.0) same), t.1, subst (λ (q : Spot). Takes at bytes (marshalled big at (Text (type_code c) b1.0.0)) q) (ap (λ (y : Header × Spot). y.1) same) both)

-- a signature, and the value of that type
variant_taken : (big : Bool) (at : ℕ) (bytes : List ℕ) (from to : Spot) (v : Tree) (text : List ℕ) → Takes at bytes (length text ∷ (text ++ 0 ∷ [])) from → text ≡ type_of v → Takes from.at from.rest (marshalled big (at + length (type_of v) + 2) v) to → Takes at bytes (marshalled big at (Variant v)) to
variant_taken big at bytes from to v text sig same value =
    let T = type_of v in
    let m = marshalled big (at + length T + 2) v in
    let both = takes_then at bytes (length text ∷ (text ++ 0 ∷ [])) from m to sig value in
    let regroup : (length T ∷ (T ++ 0 ∷ [])) ++ m ≡ length T ∷ (T ++ (0 ∷ m)) = ap (λ (x : List ℕ). length T ∷ x) (append_assoc T (0 ∷ []) m) in
    subst (λ (x : List ℕ). Takes at bytes x to) regroup (subst (λ (x : List ℕ). Takes at bytes ((length x ∷ (x ++ 0 ∷ [])) ++ m) to) same both)

place_is : (at : ℕ) (text T : List ℕ) (from : Spot) (bytes : List ℕ) → Takes at bytes (length text ∷ (text ++ 0 ∷ [])) from → text ≡ T → from.at ≡ at + length T + 2
place_is at text T from bytes t same = omega (arith, t.place, length-append text (0 ∷ []), ap length same)

known_found : (big : Bool) (start c at : ℕ) (h : Header) (bytes : List ℕ) (x : Header × Spot) → IsBytes bytes → known_field big start c h at bytes ≡ Ok x
    → (v : Tree) × (x.0 ≡ put_value h c v) × IsKnown c v × Takes at bytes (marshalled big at (Variant v)) x.1
unfolding known_field
known_found big start c at h bytes x fits e =
    let rest : List ℕ × Spot → Result (Header × Spot) Fault = λ s. cond (eqb (type_code c) 117) (number_field big start c h s.1.at s.1.rest) (text_field big c h s.1.at s.1.rest) in
    let b0 = bind_ok (signature_at at bytes) (λ s. cond (not (length s.0 == 1) || not (get_or s.0 0 0 == type_code c)) (bad fault.Fields start) (rest s)) x e in
    let s = b0.0 in
    let g = guard_ok (not (length s.0 == 1) || not (get_or s.0 0 0 == type_code c)) (record { kind = fault.Fields; at = start }) (rest s) x b0.2 in
    let text_is = one_letter s.0 (type_code c) g.0 in
    let t = sig_takes at bytes s b0.1 in
    let fits1 = IsBytes-rest (length s.0 ∷ (s.0 ++ 0 ∷ [])) s.1.rest (subst IsBytes t.0.split fits) in
    pick s t.0 text_is fits1 (eqb (type_code c) 117) refl g.1 where
      pick : (s : List ℕ × Spot) → Takes at bytes (length s.0 ∷ (s.0 ++ 0 ∷ [])) s.1 → s.0 ≡ type_code c ∷ [] → IsBytes s.1.rest → (b : Bool) → eqb (type_code c) 117 ≡ b
          → cond b (number_field big start c h s.1.at s.1.rest) (text_field big c h s.1.at s.1.rest) ≡ Ok x → (v : Tree) × (x.0 ≡ put_value h c v) × IsKnown c v × Takes at bytes (marshalled big at (Variant v)) x.1
      pick s t text_is fits1 true is read =
          let code = eqb-true (type_code c) 117 is in
          let n = number_found big start c s.1.at h s.1.rest x fits1 read in
          let same : s.0 ≡ 117 ∷ [] = text_is ∙ ap (λ (q : ℕ). q ∷ []) code in
          let place : s.1.at ≡ at + 1 + 2 = place_is at s.0 (117 ∷ []) s.1 bytes t same in
          (Number 117 n.0, n.1, (refl, code, n.2, n.3), variant_taken big at bytes s.1 x.1 (Number 117 n.0) s.0 t same (subst (λ (q : ℕ). Takes s.1.at s.1.rest (marshalled big q (Number 117 n.0)) x.1) place n.4))
      pick s t text_is fits1 false is read =
          let n = text_found big c s.1.at h s.1.rest x fits1 read in
          let place : s.1.at ≡ at + 1 + 2 = place_is at s.0 (type_code c ∷ []) s.1 bytes t text_is in
          (Text (type_code c) n.0, n.1, (refl, n.2), variant_taken big at bytes s.1 x.1 (Text (type_code c) n.0) s.0 t text_is (subst (λ (q : ℕ). Takes s.1.at s.1.rest (marshalled big q (Text (type_code c) n.0)) x.1) place n.3))

type_pos : (t : Tree) → 1 ≤ length (type_of t)
type_pos (Number c n) = omega arith
type_pos (Text c t) = omega arith
type_pos (Array item ts) = omega arith
type_pos (Struct ts) = omega arith
type_pos (Entry k v) = omega arith
type_pos (Variant t) = omega arith

no_values : (ts : Trees) → types_of ts ≡ [] → ts ≡ none
no_values none e = refl
no_values (more t ts) e = absurd (omega (arith, ap length e, length-append (type_of t) (types_of ts), type_pos t))

apart : true ≡ false → ⊥
apart e = cc

-- a value of the type of a variant is one
one_variant : (t : Tree) (ts : Trees) → 118 ∷ [] ≡ type_of t ++ types_of ts → FitsAs false 62 t → (v : Tree) × (t ≡ Variant v) × (ts ≡ none)
unfolding FitsAs
one_variant (Number c n) ts e fits = let k : c ≡ 118 = ap (λ (s : List ℕ). get_or s 0 0) (sym e) in absurd (subst (λ (q : ℕ). IsNumber (class_of q) n) k fits)
one_variant (Text c t) ts e fits = let k : c ≡ 118 = ap (λ (s : List ℕ). get_or s 0 0) (sym e) in absurd (subst (λ (q : ℕ). IsString (class_of q) t) k fits)
one_variant (Array item us) ts e fits = absurd (apart (ap (λ (s : List ℕ). eqb (get_or s 0 0) 118) e))
one_variant (Struct us) ts e fits = absurd (apart (ap (λ (s : List ℕ). eqb (get_or s 0 0) 118) e))
one_variant (Entry k v) ts e fits = absurd fits
one_variant (Variant t) ts e fits = let k : types_of ts ≡ [] = ap (λ (s : List ℕ). drop 1 s) (sym e) in (t, refl, no_values ts k)

unknown_found : (big : Bool) (at : ℕ) (bytes : List ℕ) (x : Spot) → IsBytes bytes → passed_field big at bytes ≡ Ok x → (v : Tree) × IsUnknown v × Takes at bytes (marshalled big at (Variant v)) x
unfolding passed_field
unknown_found big at bytes x fits e =
    let b = bind_ok (values_at 62 big (118 ∷ []) at bytes) (λ w. Ok (spot_at w.at w.rest)) x e in
    let r = row_found most_parts 62 most_parts 0 62 big (118 ∷ []) at bytes b.0 (omega arith) refl fits b.1 in
    let same = ok_is {E = Fault} (spot_at b.0.at b.0.rest) x b.2 in
    subst (λ (q : Spot). (v : Tree) × IsUnknown v × Takes at bytes (marshalled big at (Variant v)) q) same (go r.trees r.fit r.sig_is r.bytes_are r.place) where
      w : Walked → Spot
      w v = spot_at v.at v.rest

      go : {to : Spot} (ts : Trees) → Each (FitsAs false 62) ts → 118 ∷ [] ≡ types_of ts → bytes ≡ all_marshalled big at ts ++ to.rest → to.at ≡ at + length (all_marshalled big at ts) → (v : Tree) × IsUnknown v × Takes at bytes (marshalled big at (Variant v)) to
      go none each e split place = absurd cc
      go {to} (more t ts) each e split place =
          let o = one_variant t ts e each.0 in
          let m = marshalled big at (Variant o.0) in
          let all : all_marshalled big at (more t ts) ≡ m = ap (λ (u : Trees). all_marshalled big at (more t u)) o.2 ∙ append-nil (marshalled big at t) ∙ ap (λ (u : Tree). marshalled big at u) o.1 in
          (o.0, subst (λ (u : Tree). FitsAs false 62 u) o.1 each.0, record { split = split ∙ ap (λ (y : List ℕ). y ++ to.rest) all; place = place ∙ ap (λ (y : List ℕ). at + length y) all })

-- a field that was read
record FieldRead (big : Bool) (h : Header) (at : ℕ) (bytes : List ℕ) (x : Header × Spot) : Type 0 where
  field : Field
  is : IsField h field
  header_is : x.0 ≡ put h field
  taken : Takes at bytes (field_bytes big at field) x.1

field_taken : (big : Bool) (at : ℕ) (bytes : List ℕ) (p from to : Spot) (c : ℕ) (v : Tree) → bytes ≡ padding (gap 8 at) ++ p.rest → p.at ≡ at + gap 8 at → Takes p.at p.rest (c ∷ []) from → Takes from.at from.rest (marshalled big from.at (Variant v)) to
    → Takes at bytes (padding (gap 8 at) ++ (c ∷ marshalled big (at + gap 8 at + 1) (Variant v))) to
field_taken big at bytes p from to c v split place code value =
    let first : Takes at bytes (padding (gap 8 at)) p = record { split = split; place = omega (arith, place, length-padding (gap 8 at)) } in
    let here : from.at ≡ at + gap 8 at + 1 = omega (arith, code.place, place) in
    let value' : Takes from.at from.rest (marshalled big (at + gap 8 at + 1) (Variant v)) to = subst (λ (q : ℕ). Takes from.at from.rest (marshalled big q (Variant v)) to) here value in
    takes_then at bytes (padding (gap 8 at)) p (c ∷ marshalled big (at + gap 8 at + 1) (Variant v)) to first (takes_then p.at p.rest (c ∷ []) from (marshalled big (at + gap 8 at + 1) (Variant v)) to code value')

field_found : (big : Bool) (h : Header) (at : ℕ) (bytes : List ℕ) (x : Header × Spot) → IsBytes bytes → field_at big h at bytes ≡ Ok x → FieldRead big h at bytes x
unfolding field_at
field_found big h at bytes x fits e =
    let read : Spot → ℕ × Spot → Result (Header × Spot) Fault = λ p c. cond (ltb c.0 10) (known_field big p.at c.0 h c.1.at c.1.rest) (passed_field big c.1.at c.1.rest >>= λ y. Ok (h, y)) in
    let b0 = bind_ok (pad 8 at bytes) (λ p. byte_at p.at p.rest >>= λ c. cond ((c.0 == 0) || has h c.0) (bad fault.Fields p.at) (read p c)) x e in
    let p = b0.0 in
    let z = zeros_takes (gap 8 at) at bytes p b0.1 in
    let fits1 = IsBytes-rest (padding (gap 8 at)) p.rest (subst IsBytes z.0 fits) in
    let b1 = bind_ok (byte_at p.at p.rest) (λ c. cond ((c.0 == 0) || has h c.0) (bad fault.Fields p.at) (read p c)) x b0.2 in
    let c = b1.0 in
    let t = byte_takes p.at p.rest c b1.1 in
    let fits2 = subst IsBytes t.split fits1 in
    let fits3 = IsBytes-rest (c.0 ∷ []) c.1.rest fits2 in
    let g = guard_ok ((c.0 == 0) || has h c.0) (record { kind = fault.Fields; at = p.at }) (read p c) x b1.2 in
    pick p c z.0 z.1 t (fits2 0) fits3 (either (eqb c.0 0) (has h c.0) g.0) (ltb c.0 10) refl g.1 where
      either : (a b : Bool) → (a || b) ≡ false → (a ≡ false) × (b ≡ false)
      either true b e = absurd cc
      either false b e = (refl, e)

      pick : (p : Spot) (c : ℕ × Spot) → bytes ≡ padding (gap 8 at) ++ p.rest → p.at ≡ at + gap 8 at → Takes p.at p.rest (c.0 ∷ []) c.1 → c.0 < 256 → IsBytes c.1.rest → (eqb c.0 0 ≡ false) × (has h c.0 ≡ false) → (b : Bool) → ltb c.0 10 ≡ b
          → cond b (known_field big p.at c.0 h c.1.at c.1.rest) (passed_field big c.1.at c.1.rest >>= λ y. Ok (h, y)) ≡ Ok x → FieldRead big h at bytes x
      pick p c split place t high fits3 new true is read =
          let v = known_found big p.at c.0 c.1.at h c.1.rest x fits3 read in
          let low : 0 < c.0 = (let ne = eqb-false c.0 0 new.0 in omega arith) in
          record {
            field = record { code = c.0; value = v.0 };
            is = record { low = low; high = high; once = new.1; value = inl (ltb-true c.0 10 is, v.2) };
            header_is = v.1 ∙ sym (rw is refl);
            taken = field_taken big at bytes p c.1 x.1 c.0 v.0 split place t v.3;
          }
      pick p c split place t high fits3 new false is read =
          let b = bind_ok (passed_field big c.1.at c.1.rest) (λ y. Ok (h, y)) x read in
          let v = unknown_found big c.1.at c.1.rest b.0 fits3 b.1 in
          let same = ok_is {E = Fault} (h, b.0) x b.2 in
          let low : 0 < c.0 = (let ne = eqb-false c.0 0 new.0 in omega arith) in
          record {
            field = record { code = c.0; value = v.0 };
            is = record { low = low; high = high; once = new.1; value = inr (ltb-false c.0 10 is, v.1) };
            header_is = sym (ap (λ (y : Header × Spot). y.0) same) ∙ sym (rw is refl);
            taken = field_taken big at bytes p c.1 x.1 c.0 v.0 split place t (subst (λ (q : Spot). Takes c.1.at c.1.rest (marshalled big c.1.at (Variant v.0)) q) (ap (λ (y : Header × Spot). y.1) same) v.2);
          }

-- the fields that were read
pub record FieldsRead (big : Bool) (h : Header) (at : ℕ) (bytes : List ℕ) (to : Header) : Type 0 where
  pub fields : List Field
  pub are : AreFields h fields
  pub bytes_are : bytes ≡ fields_bytes big at fields
  pub header_is : to ≡ header_from h fields

fields_longer : (big : Bool) (h : Header) (at : ℕ) (bytes : List ℕ) (x : Header × Spot) (to : Header) → FieldRead big h at bytes x → FieldsRead big x.0 x.1.at x.1.rest to → FieldsRead big h at bytes to
fields_longer big h at bytes x to r m =
    let f = r.field in
    let one = field_bytes big at f in
    let next : x.1.at ≡ at + length one = r.taken.place in
    record {
      fields = f ∷ m.fields;
      are = (r.is, subst (λ (q : Header). AreFields q m.fields) r.header_is m.are);
      bytes_are = r.taken.split ∙ ap (λ (y : List ℕ). one ++ y) (m.bytes_are ∙ ap (λ (q : ℕ). fields_bytes big q m.fields) next);
      header_is = m.header_is ∙ ap (λ (q : Header). header_from q m.fields) r.header_is;
    }

fields_none : (big : Bool) (h : Header) (at : ℕ) (bytes : List ℕ) (to : Header) → eqb (length bytes) 0 ≡ true → h ≡ to → FieldsRead big h at bytes to
fields_none big h at [] to e same = record { fields = []; are = tt; bytes_are = refl; header_is = sym same }
fields_none big h at (b ∷ bytes) to e same = let k : length (b ∷ bytes) ≡ 0 = eqb-true _ _ e in absurd (omega arith)

pub fields_found : (n : ℕ) (big : Bool) (h : Header) (at : ℕ) (bytes : List ℕ) (to : Header) → IsBytes bytes → fields_at n big h at bytes ≡ Ok to → FieldsRead big h at bytes to
unfolding fields_at
fields_found zero big h at bytes to fits e =
    let g = held_ok (eqb (length bytes) 0) (record { kind = fault.Length; at = at }) (Ok h) to e in
    fields_none big h at bytes to g.0 (ok_is {E = Fault} h to g.1)
fields_found (suc n) big h at bytes to fits e = pick (λ x fits' e'. fields_found n big x.0 x.1.at x.1.rest to fits' e') (eqb (length bytes) 0) refl e where
  pick : ((x : Header × Spot) → IsBytes x.1.rest → fields_at n big x.0 x.1.at x.1.rest ≡ Ok to → FieldsRead big x.0 x.1.at x.1.rest to) → (b : Bool) → eqb (length bytes) 0 ≡ b
      → cond b (Ok h) (field_at big h at bytes >>= λ x. fields_at n big x.0 x.1.at x.1.rest) ≡ Ok to → FieldsRead big h at bytes to
  pick again true is h1 = fields_none big h at bytes to is (ok_is {E = Fault} h to h1)
  pick again false is h1 =
      let b = bind_ok (field_at big h at bytes) (λ x. fields_at n big x.0 x.1.at x.1.rest) to h1 in
      let r = field_found big h at bytes b.0 fits b.1 in
      fields_longer big h at bytes b.0 to r (again b.0 (IsBytes-rest (field_bytes big at r.field) b.0.1.rest (subst IsBytes r.taken.split fits)) b.2)
